-- What is promised, of every value of the book and every list whose codes the rows are.
use Rattle.std.specs.Prelude.{◌≡◌, List, ℕ, length}
use Rattle.spec.specs.Words.{Term, Subgoal}
use Rattle.spec.specs.Summaries.{Own, uses, joined}
use Rattle.spec.specs.Book.{Book, admitted_of}
use Rattle.spec.specs.Given.{at_front}
use Rattle.choice_theory.specs.Placed.{owners}
use Rattle.codes.specs.Code.{codes_of, widths_of}
use Rattle.search_meaning.specs.Uses.{ends_of}
use Rattle.book_codes.specs.RowsGiven.{RowsOf}
use Rattle.book_codes.specs.Insides.{insides, starts}

module _ (book rows : List ℕ) (n : ℕ) where
  pub record GoalsCounted (k : ℕ) : Type 0 where
    pub is : (b : Book) (l : List (Subgoal (Term ℕ))) → RowsOf book rows n b l → k ≡ length (joined (uses (admitted_of b) 0 l))

  -- the codes of all rows' uses, numbered from 0, one after the other
  pub record AllCodes (code : Term (Own ℕ) → ℕ) (before after : List ℕ) : Type 0 where
    pub is : (b : Book) (l : List (Subgoal (Term ℕ))) → RowsOf book rows n b l → after ≡ at_front (codes_of code (joined (uses (admitted_of b) 0 l))) before

  -- the number of the use that each subgoal stands in
  pub record AllOwners (before after : List ℕ) : Type 0 where
    pub is : (b : Book) (l : List (Subgoal (Term ℕ))) → RowsOf book rows n b l → after ≡ at_front (owners 0 (uses (admitted_of b) 0 l)) before

  -- its place there, from 0
  pub record AllInsides (before after : List ℕ) : Type 0 where
    pub is : (b : Book) (l : List (Subgoal (Term ℕ))) → RowsOf book rows n b l → after ≡ at_front (insides (uses (admitted_of b) 0 l)) before

  -- how many terms it has
  pub record AllWidths (before after : List ℕ) : Type 0 where
    pub is : (b : Book) (l : List (Subgoal (Term ℕ))) → RowsOf book rows n b l → after ≡ at_front (widths_of (joined (uses (admitted_of b) 0 l))) before

  -- whether it ends its use
  pub record AllEnds (before after : List ℕ) : Type 0 where
    pub is : (b : Book) (l : List (Subgoal (Term ℕ))) → RowsOf book rows n b l → after ≡ at_front (ends_of (uses (admitted_of b) 0 l)) before

  -- where each row's use begins among them, and behind that where the last ends
  pub record AllStarts (before after : List ℕ) : Type 0 where
    pub is : (b : Book) (l : List (Subgoal (Term ℕ))) → RowsOf book rows n b l → after ≡ at_front (starts 0 (uses (admitted_of b) 0 l)) before
