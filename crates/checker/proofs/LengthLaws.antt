-- The table of the heads' lengths, summary by summary.
use mathlib.Core.Path.{◌≡◌, sym, ◌∙◌}
use mathlib.Core.Logic.{⊎_elim}
use mathlib.Core.Option.{some}
use mathlib.Core.List.{List}
use Prim.Native.Nat.{ℕ, zero, suc, ◌+◌, ◌<◌, ◌≤◌}
use native.Mathlib.Omega.{arith}
use native.Mathlib.Nat.{eq-or-lt_of_le}
use lib.ListN.{length, get_or, take, set, length-map}
use lib.Seq.{length-take-le, get_or-take, get_or-set_same, get_or-set_other, ext_get_or}
use Rattle.spec.specs.Summaries.{place}
use Rattle.spec.specs.Book.{Summary, Book}
use Rattle.spec.specs.BookLayout.{SoundBook}
use Rattle.spec.specs.Contents.{count, entries_in, part_at}
use Rattle.spec.specs.Refusals.{Loads, most_at}
use Rattle.spec.proofs.Bytes.BookStands.{book-count}
use Rattle.spec.proofs.Bytes.BookPasses.{book-loads, summary-reads}
use Rattle.spec.proofs.Lists.Places.{no_place}
use Rattle.spec.proofs.Bytes.Within.{entries-some, loads-room}
use Rattle.spec.proofs.Lists.At.{mapped}
use Rattle.spec.proofs.Bytes.HeadLengths.{head_lengths}
use Rattle.admission.specs.Admission.{HasSummary}
use Rattle.admission.proofs.Standing.{entry-there, standing}
use Rattle.rule_codes.specs.Laid.{Laid}
use Rattle.rule_codes.specs.Promises.{HeadCount}
use Rattle.book_codes.specs.Question.{SomeSound}
use Rattle.checker.specs.Lengths.{HeadAt, HeadsTo, HeadsNeeds}

-- where the count stands
pub count_room : {book : List ℕ} → SomeSound book → 2 ≤ length book
count_room {book} w = omega (arith, loads-room book 1 (book-loads w.sound) (entries-some book))

-- a summary's own entry of the table
length-at : (b : Book) (i : ℕ) (u : Summary) → place b.summaries i ≡ some u → get_or (head_lengths b) i 0 ≡ length u.rule.head
length-at b zero u p = no_place b.summaries p
length-at b (suc i) u p = mapped (λ (m : Summary). length m.rule.head) b.summaries i 0 u p

module _ {book : List ℕ} {i : ℕ} (has : HasSummary book i) where
  pub summary-there : Loads book × (i + 1 < entries_in book)
  summary-there = (book-loads has.sound, entry-there has)

  module _ {body : List ℕ} (part : body ≡ part_at book (i + 1)) where
    -- its part of the book is a rule's
    pub summary-laid : Laid body
    summary-laid =
        let u = standing has has.value has.sound in
        let one : i + 1 ≡ suc i = omega arith in
        record { arities = part_at book 0; most = most_at (suc i); rule = u.0.rule; layout = rw (part, one) (summary-reads has.sound i u.0 u.1) }

    module _ {n : ℕ} (counted : HeadCount body n) where
      pub head-short : n ≤ 8
      head-short = let l = summary-laid in let few = l.layout.within.short in omega (arith, counted.is l.arities l.most l.rule l.layout)

      pub head-is : HeadAt book i n
      head-is = record { is = is }
        where
          is : (b : Book) → SoundBook book b → n ≡ get_or (head_lengths b) i 0
          is b s =
              let u = standing has b s in
              let one : i + 1 ≡ suc i = omega arith in
              counted.is (part_at book 0) (most_at (suc i)) u.0.rule (rw (part, one) (summary-reads s i u.0 u.1)) ∙ sym (length-at b i u.0 u.1)

pub heads-start : (book : List ℕ) (table : List ℕ) → get_or table 0 0 ≡ 0 → HeadsTo book 0 table
heads-start book table z = record { is = λ b s j h. go b j h }
  where
    go : (b : Book) (j : ℕ) → j ≤ 0 → get_or table j 0 ≡ get_or (head_lengths b) j 0
    go b zero h = z
    go b (suc j) h = absurd (omega arith)

module _ {book : List ℕ} {i n : ℕ} {table : List ℕ} where
  pub heads-go : HeadsTo book i table → i + 1 < length table → HeadAt book (i + 1) n → HeadsTo book (i + 1) (set table (i + 1) n)
  heads-go so room here = record { is = λ b s j h. ⊎_elim (same b s j) (λ l. other b s j l) (eq-or-lt_of_le h) }
    where
      same : (b : Book) → SoundBook book b → (j : ℕ) → j ≡ i + 1 → get_or (set table (i + 1) n) j 0 ≡ get_or (head_lengths b) j 0
      same b s j e = rw e (get_or-set_same table (i + 1) n 0 room ∙ here.is b s)

      other : (b : Book) → SoundBook book b → (j : ℕ) → j < i + 1 → get_or (set table (i + 1) n) j 0 ≡ get_or (head_lengths b) j 0
      other b s j l = get_or-set_other table (i + 1) j n 0 (λ e. omega arith) ∙ so.is b s j (omega arith)

module _ {book : List ℕ} (w : SomeSound book) {n : ℕ} (all : n ≡ count book) where
  pub count-few : n ≤ 64
  count-few = let few = w.sound.value.few in omega (arith, book-count w.sound)

  pub next-summary : {i : ℕ} → i < n → HasSummary book (i + 1)
  next-summary h = record { value = w.value; sound = w.sound; from = omega arith; to = omega (arith, book-count w.sound) }

  pub heads-end : {i : ℕ} {table : List ℕ} → n ≤ i → HeadsTo book i table → HeadsTo book (count book) table
  heads-end h so = record { is = λ b s j l. so.is b s j (omega arith) }

  module _ (table : List ℕ) (room : length table ≡ 65) where
    pub lent-long : length (take (n + 1) table) ≡ n + 1
    lent-long = length-take-le (n + 1) table (omega (arith, count-few))

    -- what is lent on
    pub heads-are : HeadsTo book (count book) table → HeadsNeeds book (take (n + 1) table)
    heads-are so = record { is = is }
      where
        is : (b : Book) → SoundBook book b → take (n + 1) table ≡ head_lengths b
        is b s = ext_get_or
            0
            (take (n + 1) table)
            (head_lengths b)
            (omega (arith, lent-long, book-count s, length-map b.summaries (λ (m : Summary). length m.rule.head)))
            (λ j h. get_or-take (n + 1) table j 0 (omega (arith, lent-long)) ∙ so.is b s j (omega (arith, lent-long)))
