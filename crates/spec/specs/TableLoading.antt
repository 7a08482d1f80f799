-- What the answers of the loader say, case by case.
use Rattle.std.specs.Prelude.{◌≡◌, List, ◌++◌, [], ◌∷◌, ℕ, ◌+◌, ◌<◌, ◌≤◌, zero, suc, length, drop, Result, Ok, Err}
use Rattle.spec.specs.Contents.{count, offset_at, length_at, stamp_at}
use Rattle.spec.specs.Refusals.{Loads, of_book, Refusal}
use Rattle.spec.specs.Told.{told_of}
use Rattle.spec.specs.declared.Reason.{Reason}
use Rattle.spec.specs.declared.Entry.{Entry}
use Rattle.spec.specs.declared.Refused.{Refused}

-- "entry records (offset, length, stamp)": that of entry i
unfoldable pub record_at : List ℕ → ℕ → Entry
record_at book i = record { offset = offset_at book i; length = length_at book i; stamp = stamp_at book i }

-- The records of `many` entries, from entry i on.
unfoldable pub records_from : List ℕ → ℕ → ℕ → List Entry
records_from book i zero = []
records_from book i (suc many) = record_at book i ∷ records_from book (suc i) many

-- "a lent table of 66 entry records"
abbrev pub least_table : ℕ
least_table = 66

-- "It gives 1 for a shorter table, tested first, then 2 to 5"
pub data TableRefusal (book : List ℕ) (room : ℕ) : Reason → Type 0 where
  one : room < least_table → TableRefusal book room (of_book 1)
  then : {r : Reason} → least_table ≤ room → Refusal book r → r.place ≡ 0 → TableRefusal book room r

-- What is to be said of a book and a table of `room` records. `Ok n`: the table has room, the book passes 2 to 5, and n is its count of summaries.
abbrev pub JudgeSays : List ℕ → ℕ → Result ℕ Refused → Type 0
JudgeSays book room (Ok n) = (least_table ≤ room) × (Loads book × (n ≡ count book))
JudgeSays book room (Err e) = TableRefusal book room (told_of e)

-- What the table is afterwards. `Ok n`: the records of entries 0 to n + 1, and "the records past n + 2 stay". `Err e`: every record stays.
abbrev pub Afterwards : List ℕ → List Entry → List Entry → Result ℕ Refused → Type 0
Afterwards book before after (Ok n) = after ≡ records_from book 0 (n + 2) ++ drop (n + 2) before
Afterwards book before after (Err e) = after ≡ before

-- The loader's promise.
pub record LoadingSays (book : List ℕ) (before after : List Entry) (said : Result ℕ Refused) : Type 0 where
  pub judged : JudgeSays book (length before) said
  pub table : Afterwards book before after said
