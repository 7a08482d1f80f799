-- The records that the loader fills in, and what the table is afterwards.
use mathlib.Core.Path.{◌≡◌, refl, ap, sym, ◌∙◌}
use mathlib.Core.List.{List, ◌++◌, ◌∷◌, map}
use Prim.Native.Nat.{ℕ, zero, suc, ◌+◌, ◌*◌, ◌<◌, ◌≤◌}
use native.Mathlib.Omega.{arith}
use native.Mathlib.Numerals.{add-one}
use lib.ListN.{length, take, drop, get_or}
use Rattle.std.specs.List.{range_with_len}
use Rattle.std.proofs.lemmas.List.{length-take-le}
use Rattle.std.proofs.lemmas.List.FromFn.{fill_by_all}
use Rattle.spec.specs.BookLayout.{entries}
use Rattle.spec.specs.Contents.{count, offset_at, length_at, stamp_at}
use Rattle.spec.specs.Refusals.{Loads}
use Rattle.spec.specs.TableLoading.{record_at, records_from}
use Rattle.spec.specs.declared.Entry.{Entry}
use Rattle.spec.proofs.Bytes.Within.{loads-room, entries-are, entries-counted}

-- A record is the one of entry i if its numbers are.
pub record_is : (book : List ℕ) (i o l s : ℕ) → o ≡ offset_at book i → l ≡ length_at book i → s ≡ stamp_at book i → ◌≡◌ {A = Entry} (record { offset = o; length = l; stamp = s }) (record_at book i)
unfolding record_at
record_is book i o l s e f g = λ j. record { offset = e j; length = f j; stamp = g j }

-- Each record below i is that of its entry.
abbrev pub Filled : List ℕ → List Entry → ℕ → Type 0
Filled book records i = (k : ℕ) (d : Entry) → k < i → get_or records k d ≡ record_at book k

records-mapped : (book : List ℕ) (many i : ℕ) → records_from book i many ≡ map (record_at book) (range_with_len i many)
unfolding records_from
records-mapped book zero i = refl
records-mapped book (suc many) i = ap (λ rest. record_at book i ∷ rest) (records-mapped book many (suc i) ∙ ap (λ k. map (record_at book) (range_with_len k many)) (sym (add-one i)))

-- What the loop needs of a book that loads: each entry's bytes are within it.
pub entry-long : (book : List ℕ) (n many i : ℕ) → Loads book → n ≡ count book → many ≡ entries n → i < many → 14 + 12 * i ≤ length book
entry-long book n many i w counted all l = loads-room book i w (omega (arith, entries-counted book n many counted all))

-- The part of the table that is written.
pub front : (book : List ℕ) (n many : ℕ) (table : List Entry) → Loads book → n ≡ count book → many ≡ entries n → 66 ≤ length table → length (take many table) ≡ many
front book n many table w counted all room = let few = w.few in length-take-le many table (omega (arith, entries-are n))

-- The records of n + 2 entries, and then what stood behind them.
pub filled-all : (book : List ℕ) (n many : ℕ) (table records : List Entry) → many ≡ entries n → length records ≡ many → Filled book records many → records ++ drop many table ≡ records_from book 0 (n + 2) ++ drop (n + 2) table
filled-all book n many table records all long h =
    let two : many ≡ n + 2 = omega (arith, entries-are n) in
    let same = fill_by_all (record_at book) records many (record_at book 0) long (λ k l. h k (record_at book 0) l) ∙ sym (records-mapped book many 0) in
    ap (λ x. x ++ drop many table) same ∙ ap (λ k. records_from book 0 k ++ drop k table) two
