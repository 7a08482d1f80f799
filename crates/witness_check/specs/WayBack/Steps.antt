-- The uses of rows as codes, between the steps.
use Rattle.std.specs.Prelude.{◌≡◌, Bool, true, ◌↔◌, List, ℕ}
use Rattle.spec.specs.Words.{Term, Subgoal}
use Rattle.spec.specs.Summaries.{rewriting}
use Rattle.spec.specs.Answer.{Back}
use Rattle.spec.specs.Book.{Book, admitted_of}
use Rattle.book_codes.specs.UsesLent.{SourceUsesOf}

-- as sources
pub record BackAlongSays (book source widths lasts witness : List ℕ) (answer : Bool) : Type 0 where
  pub exactly : (b : Book) (l : List (Subgoal (Term ℕ))) → SourceUsesOf book source widths lasts b l → (answer ≡ true) ↔ Back (admitted_of b) b.question (rewriting b.question l) witness
