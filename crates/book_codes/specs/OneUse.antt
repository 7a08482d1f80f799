-- What is promised, of every value of the book and every row whose codes are given.
use Rattle.std.specs.Prelude.{◌≡◌, List, ℕ, ◌≤◌, length}
use Rattle.spec.specs.Words.{Term, Subgoal}
use Rattle.spec.specs.Summaries.{Own, in_place}
use Rattle.spec.specs.Book.{Book, admitted_of}
use Rattle.spec.specs.Given.{at_front}
use Rattle.spec.specs.BookLayout.{summary_most}
use Rattle.codes.specs.Code.{codes_of, widths_of}
use Rattle.book_codes.specs.RowGiven.{RowOf}

module _ (book row : List ℕ) where
  -- the codes of one row's use, numbered u, at the front of an area
  pub record OneUse (code : Term (Own ℕ) → ℕ) (u : ℕ) (before after : List ℕ) (n : ℕ) : Type 0 where
    pub some : 1 ≤ n
    pub few : n ≤ summary_most
    pub count : (b : Book) (g : Subgoal (Term ℕ)) → RowOf book row b g → n ≡ length (in_place (admitted_of b) u g)
    pub codes : (b : Book) (g : Subgoal (Term ℕ)) → RowOf book row b g → after ≡ at_front (codes_of code (in_place (admitted_of b) u g)) before

  -- how many subgoals it has
  pub record OneCount (n : ℕ) : Type 0 where
    pub some : 1 ≤ n
    pub few : n ≤ summary_most
    pub count : (b : Book) (g : Subgoal (Term ℕ)) (u : ℕ) → RowOf book row b g → n ≡ length (in_place (admitted_of b) u g)

  -- how many terms each of its subgoals has
  pub record OneWidths (before after : List ℕ) : Type 0 where
    pub widths : (b : Book) (g : Subgoal (Term ℕ)) (u : ℕ) → RowOf book row b g → after ≡ at_front (widths_of (in_place (admitted_of b) u g)) before
