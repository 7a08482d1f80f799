-- The sound books are just those that nothing turns down, and each has one value.
use mathlib.Core.Path.{◌≡◌, sym, ◌∙◌}
use mathlib.Core.Logic.{◌↔◌}
use mathlib.Core.Option.{some}
use mathlib.Core.List.{List}
use Prim.Native.Nat.{ℕ, suc}
use Rattle.spec.specs.Words.{Rule}
use Rattle.spec.specs.Summaries.{place}
use Rattle.spec.specs.Book.{Summary, Book}
use Rattle.spec.specs.Numbers.{Bytes}
use Rattle.spec.specs.BookLayout.{SoundBook}
use Rattle.spec.specs.Contents.{part_at}
use Rattle.spec.specs.Refusals.{most_at, Reads, Passes}
use Rattle.spec.proofs.Bytes.RuleLaws.{layout-unique}
use Rattle.spec.proofs.Lists.Places.{places_same}
use Rattle.spec.proofs.Bytes.BookStands.{book-count, relations-part, question-stamp, summary-stamp}
use Rattle.spec.proofs.Bytes.BookPasses.{question-reads, summary-reads, book-passes}
use Rattle.spec.proofs.Bytes.BookRead.{book-of}

-- An entry has one rule.
pub reads-unique : (book : List ℕ) (i : ℕ) (r r' : Rule ℕ) → Reads book i r → Reads book i r' → r ≡ r'
reads-unique book i r r' = layout-unique (part_at book 0) (most_at i) (part_at book i) r r'

module _ {bytes : List ℕ} {b b' : Book} (s : SoundBook bytes b) (s' : SoundBook bytes b') where
  same-arities : b.arities ≡ b'.arities
  same-arities = sym (relations-part s) ∙ relations-part s'

  same-need : b.need ≡ b'.need
  same-need = sym (question-stamp s) ∙ question-stamp s'

  same-question : b.question ≡ b'.question
  same-question = reads-unique bytes 1 _ _ (question-reads s) (question-reads s')

  same-summary : (i : ℕ) (u u' : Summary) → place b.summaries (suc i) ≡ some u → place b'.summaries (suc i) ≡ some u' → u ≡ u'
  same-summary i u u' p p' =
      let stamp : u.stamp ≡ u'.stamp = sym (summary-stamp s (suc i) u p) ∙ summary-stamp s' (suc i) u' p' in
      let rule : u.rule ≡ u'.rule = reads-unique bytes (suc (suc i)) _ _ (summary-reads s (suc i) u p) (summary-reads s' (suc i) u' p') in
      λ j. record { stamp = stamp j; rule = rule j }

  same-summaries : b.summaries ≡ b'.summaries
  same-summaries = places_same b.summaries b'.summaries (sym (book-count s) ∙ book-count s') same-summary

  pub book-unique : b ≡ b'
  book-unique = λ j. record { arities = same-arities j; need = same-need j; question = same-question j; summaries = same-summaries j }

-- A list of bytes is a sound book exactly if nothing turns it down.
pub sound-exactly : (bytes : List ℕ) → Bytes bytes → Passes bytes ↔ ((b : Book) × SoundBook bytes b)
sound-exactly bytes h = (book-of bytes h, λ s. book-passes s.1)
