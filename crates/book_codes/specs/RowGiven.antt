-- What is lent: a sound book, and a row over its admitted summaries as codes.
use Rattle.std.specs.Prelude.{◌≡◌, List, ℕ, take}
use Rattle.spec.specs.Words.{Term, Subgoal}
use Rattle.spec.specs.Summaries.{Over}
use Rattle.spec.specs.Book.{Book, admitted_of}
use Rattle.spec.specs.RuleLayout.{TermsWithin}
use Rattle.spec.specs.BookLayout.{SoundBook}
use Rattle.codes.specs.Code.{term_code, subgoal_codes, subgoal_size}

-- One row: its nine codes at the front.
pub record RowOf (book row : List ℕ) (b : Book) (g : Subgoal (Term ℕ)) : Type 0 where
  pub sound : SoundBook book b
  pub over : Over (admitted_of b) g
  pub within : TermsWithin g.terms
  pub codes : take subgoal_size row ≡ subgoal_codes term_code g

pub record RowGiven (book row : List ℕ) : Type 0 where
  pub value : Book
  pub goal : Subgoal (Term ℕ)
  pub is : RowOf book row value goal
