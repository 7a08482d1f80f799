-- What the tests of a rewriting say.
use Rattle.std.specs.Prelude.{◌≡◌, Bool, true, ◌↔◌, List, ℕ, ◌*◌, ◌<◌, get_or}
use Rattle.std.proofs.Math.Option.{some}
use Rattle.spec.specs.Words.{Rule}
use Rattle.spec.specs.Summaries.{summary}
use Rattle.spec.specs.Book.{Book, admitted_of}
use Rattle.spec.specs.RuleLayout.{Layout}
use Rattle.spec.specs.BookLayout.{SoundBook, question_most}
use Rattle.codes.specs.Code.{subgoal_size}

-- "one whole rule by the layout with 1 to 12 subgoals", where a summary stands for a relation, as wide as its head
pub record LaidOut (lengths rewriting : List ℕ) (r : Bool) : Type 0 where
  pub exactly : (r ≡ true) ↔ ((rule : Rule ℕ) × Layout lengths question_most rewriting rule)

-- "the question's head": the rules whose layouts the bytes are have one head
pub record SameHeads (a b : List ℕ) (r : Bool) : Type 0 where
  pub exactly : (arities : List ℕ) (most : ℕ) (p : Rule ℕ) → Layout arities most a p → (known : List ℕ) (few : ℕ) (q : Rule ℕ) → Layout known few b q → (r ≡ true) ↔ (p.head ≡ q.head)

-- The number is that of an admitted summary.
abbrev pub AdmittedNumber : Book → ℕ → Type 0
AdmittedNumber b number = (v : Rule ℕ) × (summary (admitted_of b) number ≡ some v)

pub record Admits (book : List ℕ) (number : ℕ) (r : Bool) : Type 0 where
  pub exactly : (b : Book) → SoundBook book b → (r ≡ true) ↔ AdmittedNumber b number

-- "over admitted summaries": of so many rows, nine codes each, the first code is such a number
pub record AdmitsAll (book codes : List ℕ) (count : ℕ) (r : Bool) : Type 0 where
  pub exactly : (b : Book) → SoundBook book b → (r ≡ true) ↔ ((i : ℕ) → i < count → AdmittedNumber b (get_or codes (subgoal_size * i) 0))
