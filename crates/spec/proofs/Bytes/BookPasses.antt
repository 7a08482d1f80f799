-- Nothing turns a sound book down.
use mathlib.Core.Path.{◌≡◌, sym}
use mathlib.Core.Logic.{inl, inr}
use mathlib.Core.Option.{some}
use mathlib.Core.List.{List}
use Prim.Native.Nat.{ℕ, zero, suc, ◌<◌, ◌≤◌}
use native.Mathlib.Omega.{arith}
use Rattle.spec.specs.Summaries.{place}
use Rattle.spec.specs.Book.{Summary, Book}
use Rattle.spec.specs.BookLayout.{entries, question_most, SoundBook}
use Rattle.spec.specs.Contents.{entries_in, part_at}
use Rattle.spec.specs.RuleLayout.{Layout}
use Rattle.spec.specs.Refusals.{longest, Fault2, Loads, Reads, SoundEntry, Passes}
use Rattle.spec.proofs.Lists.Places.{place-some, no_place}
use Rattle.spec.proofs.Bytes.BookSizes.{book-sizes}
use Rattle.spec.proofs.Bytes.BookStands.{book-count, book-entries, book-no-gaps, book-relations, relations-part, question-part, summary-part}
use Rattle.spec.proofs.Lists.Counted.{place_in}

module _ {bytes : List ℕ} {b : Book} (s : SoundBook bytes b) where
  sized : Fault2 bytes → ⊥
  unfolding longest
  sized (inl short) = let sizes = book-sizes s in omega arith
  sized (inr long) = let sizes = book-sizes s in omega arith

  pub book-loads : Loads bytes
  book-loads = record { size = sized; few = rw (book-count s) s.value.few; no_gaps = book-no-gaps s; relations = book-relations s }

  -- The rules that stand there are the value's.
  pub question-reads : Reads bytes 1 b.question
  question-reads = record { within = rw (relations-part s) s.value.question.within; written = sym (question-part s) }

  pub summary-reads : (i : ℕ) (u : Summary) → place b.summaries i ≡ some u → Reads bytes (suc i) u.rule
  summary-reads zero u p = no_place b.summaries p
  summary-reads (suc i) u p = record { within = rw (relations-part s) (s.value.summaries u (place_in b.summaries (suc i) p)).within; written = sym (summary-part s (suc i) u p) }

  sound-entry : (i : ℕ) → 1 ≤ i → i < entries_in bytes → SoundEntry bytes i
  unfolding entries
  sound-entry zero l h = absurd (omega arith)
  sound-entry (suc zero) l h = record { rule = b.question; reads = question-reads; safe = s.value.question.safe; plain = λ m. absurd (omega arith) }
  sound-entry (suc (suc i)) l h =
      let there = place-some b.summaries i (omega (arith, book-entries s)) in
      let sound = s.value.summaries there.0 (place_in b.summaries (suc i) there.1) in
      record { rule = there.0.rule; reads = summary-reads (suc i) there.0 there.1; safe = sound.safe; plain = λ m. sound.plain }

  pub book-passes : Passes bytes
  book-passes = record { loads = book-loads; sound = sound-entry }

-- .. and so in parts that are those of the book
pub question-laid : {book relations body : List ℕ} → relations ≡ part_at book 0 → body ≡ part_at book 1 → (b : Book) → SoundBook book b → Layout relations question_most body b.question
question-laid first part b s = rw (first, part) (question-reads s)
