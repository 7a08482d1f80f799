-- What is promised of the first part of a witness, of every value of the book and every list whose codes the rows are.
use Rattle.std.specs.Prelude.{◌≡◌, Bool, true, ◌↔◌, List, ℕ}
use Rattle.spec.specs.Words.{Term, Subgoal}
use Rattle.spec.specs.Summaries.{rewriting}
use Rattle.spec.specs.Answer.{There}
use Rattle.spec.specs.Book.{Book, admitted_of}
use Rattle.book_codes.specs.FewRows.{FewRowsOf}

module _ (book rows : List ℕ) (k : ℕ) (witness : List ℕ) (answer : Bool) where
  -- "both parts are containment mappings": the first, no byte over and none missing
  pub record ThereCheckSays : Type 0 where
    pub exactly : (b : Book) (l : List (Subgoal (Term ℕ))) → FewRowsOf book rows k b l → (answer ≡ true) ↔ There (admitted_of b) b.question (rewriting b.question l) witness
