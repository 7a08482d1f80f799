-- What the steps promise: how long the question is, and whether the witness is that of rows that are given.
use Rattle.std.specs.Prelude.{◌≡◌, Bool, true, ◌↔◌, List, ◌++◌, ℕ, length}
use Rattle.spec.specs.Words.{Term, Subgoal}
use Rattle.spec.specs.Summaries.{rewriting}
use Rattle.spec.specs.Answer.{There, Back}
use Rattle.spec.specs.Book.{Book, admitted_of}
use Rattle.spec.specs.BookLayout.{SoundBook}
use Rattle.book_codes.specs.FewRows.{FewRowsOf}

pub record QuestionGoals (book : List ℕ) (n : ℕ) : Type 0 where
  pub is : (b : Book) → SoundBook book b → n ≡ length b.question.body

-- "the witness has exactly the needed length; and both parts are containment mappings"
pub record Witness (b : Book) (l : List (Subgoal (Term ℕ))) (witness : List ℕ) : Type 0 where
  pub there : List ℕ
  pub back : List ℕ
  pub whole : witness ≡ there ++ back
  pub goes : There (admitted_of b) b.question (rewriting b.question l) there
  pub returns : Back (admitted_of b) b.question (rewriting b.question l) back

pub record ConfirmSays (book rows : List ℕ) (k : ℕ) (witness : List ℕ) (answer : Bool) : Type 0 where
  pub exactly : (b : Book) (l : List (Subgoal (Term ℕ))) → FewRowsOf book rows k b l → (answer ≡ true) ↔ Witness b l witness
