-- What is promised of the first part of the witness, of every value of the book and every list whose codes the rows are.
use Rattle.std.specs.Prelude.{◌≡◌, List, ℕ, ◌*◌, ◌≤◌, length}
use Rattle.std.proofs.lemmas.List.Edits.{sets}
use Rattle.spec.specs.Words.{Term, Subgoal}
use Rattle.spec.specs.Summaries.{rewriting, Equivalent}
use Rattle.spec.specs.Answer.{FirstThere}
use Rattle.spec.specs.Book.{Book, admitted_of}
use Rattle.spec.specs.BookLayout.{question_most}
use Rattle.book_codes.specs.FewRows.{FewRows, FewRowsOf}

-- The list is equivalent to the book's question.
abbrev pub Serves : Book → List (Subgoal (Term ℕ)) → Type 0
Serves b l = Equivalent (admitted_of b) b.question (rewriting b.question l)

pub record WitnessNeeds (book rows : List ℕ) (k : ℕ) : Type 0 where
  pub some : FewRows book rows k
  pub serves : Serves some.value some.list

-- The first part, at the front of an area; the bytes behind it stay.
pub record ThereOf (b : Book) (l : List (Subgoal (Term ℕ))) (before after : List ℕ) (n : ℕ) : Type 0 where
  pub bytes : List ℕ
  pub first : FirstThere (admitted_of b) b.question (rewriting b.question l) bytes
  pub long : n ≡ length bytes
  pub few : n ≤ 2 * question_most
  pub written : after ≡ sets before 0 bytes

pub record ThereSays (book rows : List ℕ) (k : ℕ) (before after : List ℕ) (n : ℕ) : Type 0 where
  pub is : (b : Book) (l : List (Subgoal (Term ℕ))) → FewRowsOf book rows k b l → Serves b l → ThereOf b l before after n
