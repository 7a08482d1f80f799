-- The uses of rows as codes, between the steps.
use Rattle.std.specs.Prelude.{◌≡◌, Bool, true, ◌↔◌, List, ℕ, ◌+◌, length, take}
use Rattle.spec.specs.Words.{Term, Subgoal}
use Rattle.spec.specs.Summaries.{rewriting, uses}
use Rattle.spec.specs.Answer.{There}
use Rattle.spec.specs.Book.{Book, admitted_of}
use Rattle.book_codes.specs.Insides.{starts}
use Rattle.book_codes.specs.UsesLent.{TargetUsesOf}

module _ (book target own begins : List ℕ) (k : ℕ) where
  -- as targets, and where each use begins
  pub record BegunUsesOf (b : Book) (l : List (Subgoal (Term ℕ))) : Type 0 where
    pub targets : TargetUsesOf book target own b l
    pub count : length l ≡ k
    pub begin : take (k + 1) begins ≡ starts 0 (uses (admitted_of b) 0 l)

  pub record ThereAlongNeeds : Type 0 where
    pub value : Book
    pub list : List (Subgoal (Term ℕ))
    pub is : BegunUsesOf value list

  pub record ThereAlongSays (witness : List ℕ) (answer : Bool) : Type 0 where
    pub exactly : (b : Book) (l : List (Subgoal (Term ℕ))) → BegunUsesOf b l → (answer ≡ true) ↔ There (admitted_of b) b.question (rewriting b.question l) witness
