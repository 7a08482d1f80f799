-- What is promised of the second part of the witness, of every value of the book and every list whose codes the rows are.
use Rattle.std.specs.Prelude.{◌≡◌, List, ℕ, ◌≤◌, length}
use Rattle.std.proofs.lemmas.List.Edits.{sets}
use Rattle.spec.specs.Words.{Term, Subgoal}
use Rattle.spec.specs.Summaries.{rewriting}
use Rattle.spec.specs.Answer.{FirstBack}
use Rattle.spec.specs.Book.{Book, admitted_of}
use Rattle.codes.specs.Code.{uses_goals}
use Rattle.book_codes.specs.FewRows.{FewRowsOf}
use Rattle.witness.specs.ThereTold.{Serves}

-- The second part, from `at` on.
pub record BackOf (b : Book) (l : List (Subgoal (Term ℕ))) (at : ℕ) (before after : List ℕ) (n : ℕ) : Type 0 where
  pub bytes : List ℕ
  pub first : FirstBack (admitted_of b) b.question (rewriting b.question l) bytes
  pub long : n ≡ length bytes
  pub few : n ≤ uses_goals
  pub written : after ≡ sets before at bytes

pub record BackSays (book rows : List ℕ) (k at : ℕ) (before after : List ℕ) (n : ℕ) : Type 0 where
  pub is : (b : Book) (l : List (Subgoal (Term ℕ))) → FewRowsOf book rows k b l → Serves b l → BackOf b l at before after n
