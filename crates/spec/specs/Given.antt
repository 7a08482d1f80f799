-- What an accepted book is given: the bytes of the answer and of the witness.
use Rattle.std.specs.Prelude.{List, ◌++◌, ℕ, length, drop}
use Rattle.spec.specs.Words.{Rule}
use Rattle.spec.specs.Summaries.{rewriting}
use Rattle.spec.specs.Book.{Book, admitted_of}
use Rattle.spec.specs.Result.{Answered, Right}
use Rattle.spec.specs.RuleLayout.{rule_bytes}
use Rattle.spec.specs.BookLayout.{SoundBook}
use Rattle.spec.specs.Table.{Fault1, Fault9}

-- "bytes past them stay"
abbrev pub at_front : List ℕ → List ℕ → List ℕ
at_front bytes area = bytes ++ drop (length bytes) area

-- "written to the answer area as a rule, with a summary number in each subgoal where a relation number stood"
abbrev pub answer_bytes : Rule ℕ → Answered → List ℕ
answer_bytes q a = rule_bytes (rewriting q a.rows)

-- "The witness area gets, per question subgoal, two bytes ..; then, per rewriting subgoal and per subgoal of its summary, one byte"
abbrev pub witness_bytes : Answered → List ℕ
witness_bytes a = a.there ++ a.back

-- The areas are long enough, the book is sound and has at most 64 rows, and this is its answer with its witness.
pub record Given (book : List ℕ) (answer witness : ℕ) : Type 0 where
  pub room : Fault1 answer witness → ⊥
  pub value : Book
  pub sound : SoundBook book value
  pub few : Fault9 (admitted_of value) value.question → ⊥
  pub result : Answered
  pub right : Right (admitted_of value) value.question result
