-- From what is said of an entry's part to the refusal table, and from all entries to the whole book.
use mathlib.Core.Path.{◌≡◌, sym, subst}
use mathlib.Core.List.{List}
use Prim.Native.Nat.{ℕ, ◌+◌, ◌-◌, ◌<◌, ◌≤◌}
use native.Mathlib.Omega.{arith}
use lib.ListN.{take, drop}
use borrow.Author.Tests.{ltb-true}
use Rattle.std.specs.Prelude.{Result, Err}
use Rattle.spec.specs.Words.{Rule, Safe}
use Rattle.spec.specs.Book.{Book}
use Rattle.spec.specs.Numbers.{Bytes}
use Rattle.spec.specs.BookLayout.{SoundBook}
use Rattle.spec.specs.Contents.{entries_in, offset_at, length_at, part_at}
use Rattle.spec.specs.Refusals.{most_at, of_entry, SoundEntry, Reached, Refusal, six, seven, eight, Loads, Reads}
use Rattle.spec.proofs.Bytes.Within.{part-lent}
use Rattle.spec.proofs.Bytes.BookUnique.{reads-unique, sound-exactly}
use Rattle.rules.specs.declared.subgoals.Fault.{Fault}
use Rattle.rules.specs.declared.subgoals.Fault.TheVariants.{Count, Relation, Tag, Variable, Early, Over}
use Rattle.rules.specs.declared.Defect.{Defect}
use Rattle.rules.specs.declared.Defect.TheVariants.{Broken, Unsafe, Repeats}
use Rattle.rules.specs.Judged.{Judged, refusal_number}
use Rattle.books.specs.Entries.{summary_at}

module _ (book : List ℕ) (i : ℕ) where
  abbrev pub Judgement : Result Unit Defect → Type 0
  Judgement r = Judged (part_at book 0) (most_at i) (summary_at i) (part_at book i) r

  -- what is said of the parts that the code cuts is said of the entry
  pub verdict-of : (relations : List ℕ) (offset size most : ℕ) (r : Result Unit Defect)
      → relations ≡ part_at book 0 → offset ≡ offset_at book i → size ≡ length_at book i → most ≡ most_at i
      → Judged relations most (summary_at i) (take (offset + size - offset) (drop offset book)) r → Judgement r
  verdict-of relations offset size most r a o l m j = rw (sym a, sym m, sym (part-lent book i offset size o l)) j

  broken-six : Reached book i → ((r : Rule ℕ) → Reads book i r → ⊥) → (f : Fault) → Refusal book (of_entry (refusal_number (Broken f)) i)
  broken-six reached none Count = six reached none
  broken-six reached none Relation = six reached none
  broken-six reached none Tag = six reached none
  broken-six reached none Variable = six reached none
  broken-six reached none Early = six reached none
  broken-six reached none Over = six reached none

  pub entry-refused : Reached book i → (d : Defect) → Judgement (Err d) → Refusal book (of_entry (refusal_number d) i)
  entry-refused reached (Broken f) j = broken-six reached j.none f
  entry-refused reached Unsafe j = seven reached (j.rule, j.layout, j.not_safe)
  entry-refused reached Repeats j =
      eight reached (λ r reads. subst Safe (reads-unique book i j.rule r j.layout reads) j.safe) (ltb-true 1 i j.is_summary, (j.rule, j.layout, j.not_plain))

-- "entry by entry": those from 1 up to an entry
abbrev pub SoundUpTo : List ℕ → ℕ → Type 0
SoundUpTo book i = (j : ℕ) → 1 ≤ j → j < i → SoundEntry book j

pub all_sound : (book : List ℕ) (i : ℕ) → Bytes book → Loads book → entries_in book ≤ i → SoundUpTo book i → (b : Book) × SoundBook book b
all_sound book i h l e before = (sound-exactly book h).0 record { loads = l; sound = λ j a b. before j a (omega arith) }
