-- What is known when the rows chosen are written.
use Rattle.std.specs.Prelude.{◌≡◌, List, ℕ, ◌≤◌, length}
use Rattle.spec.specs.Words.{Term, Subgoal}
use Rattle.spec.specs.Answer.{Answer}
use Rattle.spec.specs.Book.{Book, admitted_of}
use Rattle.spec.specs.BookLayout.{SoundBook, question_most}
use Rattle.spec.specs.Table.{Fault1, Fault9}
use Rattle.spec.proofs.Decided.Rows.{all_rows}
use Rattle.codes.specs.Code.{term_code, codes_of, widths_of}
use Rattle.first_shortest.specs.Chosen.{Found}
use Rattle.first_shortest.specs.declared.Chosen.{Chosen}
use Rattle.row_choice.specs.Asked.{ChoiceNeeds}

-- The rows are the answer to a sound book's question, and there is room for it.
pub record PutNeeds (book codes widths : List ℕ) (answer witness : ℕ) : Type 0 where
  pub value : Book
  pub sound : SoundBook book value
  pub few : Fault9 (admitted_of value) value.question → ⊥
  pub room : Fault1 answer witness → ⊥
  pub list : List (Subgoal (Term ℕ))
  pub answers : Answer (admitted_of value) value.question list
  pub short : length list ≤ question_most
  pub codes_are : codes ≡ codes_of term_code list
  pub widths_are : widths ≡ widths_of list

-- The rows chosen of all summary rows.
pub record AnswerNeeds (book rows : List ℕ) (n : ℕ) (chosen : Chosen) (answer witness : ℕ) : Type 0 where
  pub asked : ChoiceNeeds book rows n
  pub found : Found (admitted_of asked.value) asked.value.question (all_rows (admitted_of asked.value) asked.value.question) chosen
  pub room : Fault1 answer witness → ⊥
