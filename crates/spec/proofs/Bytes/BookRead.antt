-- A book of bytes that nothing turns down is the layout of a value.
use mathlib.Core.Path.{◌≡◌, refl, ap, ap₂, sym, ◌∙◌}
use mathlib.Core.List.Memᴰ
use mathlib.Core.List.{List, [], ◌∷◌, map}
use Prim.Native.Nat.{ℕ, zero, suc, ◌+◌, ◌*◌, ◌<◌, ◌≤◌}
use native.Mathlib.Omega.{arith}
use lib.ListN.{length}
use Rattle.spec.specs.Words.{◌∈◌}
use Rattle.spec.specs.Book.{Summary, Book}
use Rattle.spec.specs.Numbers.{Bytes}
use Rattle.spec.specs.BookLayout.{entries, entry_of, entries_of, book_bytes, SoundSummary, SoundValue, SoundBook}
use Rattle.spec.specs.Contents.{count, entries_in, stamp_at, part_at}
use Rattle.spec.specs.Refusals.{SoundEntry, Passes}
use Rattle.spec.proofs.Bytes.NumberAt.{number-below}
use Rattle.spec.proofs.Bytes.Laid.{laid, book-laid}
use Rattle.spec.proofs.Bytes.Gapless.{entries_from, gapless}

-- The summaries of so many entries, from entry i on.
record SummariesAt (book : List ℕ) (i many : ℕ) : Type 0 where
  list : List Summary
  size : length list ≡ many
  same : map entry_of list ≡ entries_from book i many
  sound : (s : Summary) → s ∈ list → SoundSummary (part_at book 0) s

module _ (book : List ℕ) (bytes : Bytes book) (passes : Passes book) where
  stamp-fits : (i : ℕ) → stamp_at book i < 4294967296
  unfolding stamp_at
  stamp-fits i = number-below 4 book (10 + 12 * i) bytes

  rule-of : (i : ℕ) → suc (suc i) < entries_in book → SoundEntry book (suc (suc i))
  rule-of i h = passes.sound (suc (suc i)) (omega arith) h

  summaries-of : (many i : ℕ) → suc (suc i) + many ≤ entries_in book → SummariesAt book (suc (suc i)) many
  summaries-of zero i h = record { list = []; size = refl; same = refl; sound = λ s m. absurd (Memᴰ.not-nil m) }
  summaries-of (suc many) i h = step (rule-of i (omega arith)) (summaries-of many (suc i) (omega arith))
    where
      step : SoundEntry book (suc (suc i)) → SummariesAt book (suc (suc (suc i))) many → SummariesAt book (suc (suc i)) (suc many)
      step e others = record { list = one ∷ others.list; size = ap suc others.size; same = ap₂ ◌∷◌ (λ j. record { stamp = one.stamp; body = e.reads.written j }) others.same; sound = sound }
        where
          one : Summary
          one = record { stamp = stamp_at book (suc (suc i)); rule = e.rule }

          sound : (s : Summary) → s ∈ (one ∷ others.list) → SoundSummary (part_at book 0) s
          sound s (Memᴰ.head p) = rw p record { stamp = stamp-fits (suc (suc i)); within = e.reads.within; safe = e.safe; plain = e.plain (omega arith) }
          sound s (Memᴰ.tail m) = others.sound s m

  module _ (question : SoundEntry book 1) (others : SummariesAt book 2 (count book)) where
    value : Book
    value = record { arities = part_at book 0; need = stamp_at book 1; question = question.rule; summaries = others.list }

    value-sound : SoundValue value
    unfolding value
    value-sound = record {
      arities = passes.loads.relations.arities;
      need = stamp-fits 1;
      question = record { within = question.reads.within; safe = question.safe };
      few = rw others.size passes.loads.few;
      summaries = others.sound;
    }

    value-entries : entries_of value ≡ entries_from book 0 (entries_in book)
    unfolding value entries_in entries
    value-entries =
        let all : entries_in book ≡ suc (suc (count book)) = omega arith in
        rw all (ap₂ ◌∷◌ (λ j. record { stamp = sym passes.loads.relations.stamp j; body = part_at book 0 }) (ap₂ ◌∷◌ (λ j. record { stamp = stamp_at book 1; body = question.reads.written j }) others.same))

    value_written : book_bytes value ≡ book
    unfolding value
    value_written = book-laid value ∙ ap₂ laid others.size value-entries ∙ gapless book bytes passes.loads.no_gaps

    value-book : SoundBook book value
    value-book = record { value = value-sound; written = value_written }

  pub book-of : (b : Book) × SoundBook book b
  unfolding entries_in entries
  book-of =
      let question = passes.sound 1 (omega arith) (omega arith) in
      let others = summaries-of (count book) 0 (omega arith) in
      (value question others, value-book question others)
