-- "The longest sound book has 25,040 bytes, the shortest 35": from the bounds of its value alone.
use mathlib.Core.Path.{◌≡◌, sym}
use mathlib.Core.List.{List, ◌++◌, map, map-map}
use Prim.Native.Nat.{ℕ, ◌+◌, ◌*◌, ◌≤◌}
use native.Mathlib.Omega.{arith}
use lib.ListN.{length, length-append, length-map}
use Rattle.spec.specs.Summaries.{joined}
use Rattle.spec.specs.Book.{Book}
use Rattle.spec.specs.RuleLayout.{rule_bytes}
use Rattle.spec.specs.BookLayout.{StampedBody, entries, contents_end, question_most, entry_of, entries_of, bodies, book_bytes, SoundValue, SoundBook}
use Rattle.spec.specs.Refusals.{longest}
use Rattle.spec.proofs.Lists.Joined.{joined-most}
use Rattle.spec.proofs.Bytes.Sizes.{within-least, question-most, summary-most}
use Rattle.spec.proofs.Bytes.Laid.{book-laid, laid-size}

module _ (b : Book) where
  pub entries-many : length (entries_of b) ≡ entries (length b.summaries)
  unfolding entries
  entries-many = omega (arith, length-map b.summaries entry_of)

  abbrev others : List ℕ
  others = joined (bodies (map entry_of b.summaries))

  bodies-size : length (joined (bodies (entries_of b))) ≡ length b.arities + length (rule_bytes b.question) + length others
  bodies-size = omega (arith, length-append b.arities (rule_bytes b.question ++ others), length-append (rule_bytes b.question) others)

  book-size : length (book_bytes b) ≡ contents_end (length b.summaries) + length b.arities + length (rule_bytes b.question) + length others
  book-size = rw (book-laid b) (omega (arith, laid-size (length b.summaries) (entries_of b) entries-many, bodies-size))

  module _ (v : SoundValue b) where
    others-most : length others ≤ 370 * length b.summaries
    others-most =
        rw (map-map (λ (e : StampedBody). e.body) entry_of b.summaries) (joined-most (λ s. rule_bytes s.rule) 370 b.summaries (λ s m. summary-most v.arities s.rule (v.summaries s m).within))

    pub book-least : 35 ≤ length (book_bytes b)
    unfolding contents_end entries
    book-least = omega (arith, book-size, v.arities.some, within-least v.arities b.question question_most v.question.within)

    pub book-most : length (book_bytes b) ≤ longest
    unfolding contents_end entries longest
    book-most = omega (arith, book-size, others-most, v.arities.few, v.few, question-most v.arities b.question v.question.within)

pub book-sizes : {bytes : List ℕ} {b : Book} → SoundBook bytes b → (35 ≤ length bytes) × (length bytes ≤ longest)
book-sizes {bytes} {b} s = rw (sym s.written) (book-least b s.value, book-most b s.value)
