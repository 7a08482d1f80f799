-- What is lent: a sound book, and rows over its admitted summaries as codes.
use Rattle.std.specs.Prelude.{◌≡◌, List, ℕ, ◌*◌, length, take}
use Rattle.spec.specs.Words.{◌∈◌, Term, Subgoal}
use Rattle.spec.specs.Summaries.{definition}
use Rattle.spec.specs.Book.{Book, admitted_of}
use Rattle.spec.specs.BookLayout.{SoundBook}
use Rattle.outcomes.specs.Bounds.{RowsWithin}
use Rattle.codes.specs.Code.{term_code, codes_of, subgoal_size}

-- So many rows: nine codes each at the front. Each is as long as its summary's head.
pub record RowsOf (book rows : List ℕ) (n : ℕ) (b : Book) (l : List (Subgoal (Term ℕ))) : Type 0 where
  pub sound : SoundBook book b
  pub within : RowsWithin (admitted_of b) l
  pub long : (g : Subgoal (Term ℕ)) → g ∈ l → length g.terms ≡ length (definition (admitted_of b) g.relation).head
  pub count : length l ≡ n
  pub codes : take (subgoal_size * n) rows ≡ codes_of term_code l

pub record RowsGiven (book rows : List ℕ) (n : ℕ) : Type 0 where
  pub value : Book
  pub list : List (Subgoal (Term ℕ))
  pub is : RowsOf book rows n value list
