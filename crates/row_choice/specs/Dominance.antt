-- The table of which rows dominate which.
use Rattle.std.specs.Prelude.{List, ℕ, ◌<◌, get_or}
use Rattle.spec.specs.Book.{Book, admitted_of}
use Rattle.spec.proofs.Decided.Rows.{RowList}
use Rattle.book_codes.specs.RowsGiven.{RowsOf}
use Rattle.row_choice.specs.Dominators.{Dominators}

-- Of each row its set, in the row's place.
pub record Dominance (book rows : List ℕ) (n : ℕ) (table : List ℕ) : Type 0 where
  pub by : (b : Book) (l : RowList) → RowsOf book rows n b l → (r : ℕ) → r < n → Dominators (admitted_of b) l r (get_or table r 0)
