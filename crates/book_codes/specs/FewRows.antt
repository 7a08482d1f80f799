-- A few rows of a sound book as codes: as many as a rewriting may have.
use Rattle.std.specs.Prelude.{List, ℕ, ◌≤◌, length}
use Rattle.spec.specs.Words.{Term, Subgoal}
use Rattle.spec.specs.Book.{Book, admitted_of}
use Rattle.spec.specs.BookLayout.{SoundBook, question_most}
use Rattle.outcomes.specs.Bounds.{RowsWithin}
use Rattle.book_codes.specs.RowsGiven.{RowsOf}

-- As many rows of a sound book as a rewriting may have.
pub record FewRowsOf (book rows : List ℕ) (k : ℕ) (b : Book) (l : List (Subgoal (Term ℕ))) : Type 0 where
  pub rows_of : RowsOf book rows k b l
  pub few : k ≤ question_most

pub record FewRows (book rows : List ℕ) (k : ℕ) : Type 0 where
  pub value : Book
  pub list : List (Subgoal (Term ℕ))
  pub is : FewRowsOf book rows k value list

-- A list of few rows of a sound book.
pub record ListOf (book : List ℕ) (b : Book) (l : List (Subgoal (Term ℕ))) : Type 0 where
  pub sound : SoundBook book b
  pub within : RowsWithin (admitted_of b) l
  pub few : length l ≤ question_most
