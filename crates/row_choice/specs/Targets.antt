-- The uses of the rows, one after the other, as targets.
use Rattle.std.specs.Prelude.{◌≡◌, List, ℕ}
use Rattle.spec.specs.Summaries.{uses, joined}
use Rattle.spec.specs.Book.{Book, admitted_of}
use Rattle.spec.proofs.Decided.Rows.{RowList}
use Rattle.choice_theory.specs.Placed.{owners}
use Rattle.codes.specs.Code.{own_code, codes_of}
use Rattle.book_codes.specs.RowsGiven.{RowsOf}

module _ (book rows : List ℕ) (n : ℕ) where
  -- their codes
  pub record Targets (target : List ℕ) : Type 0 where
    pub is : (b : Book) (l : RowList) → RowsOf book rows n b l → target ≡ codes_of own_code (joined (uses (admitted_of b) 0 l))

  -- of each target the number of its row
  pub record Owners (own : List ℕ) : Type 0 where
    pub is : (b : Book) (l : RowList) → RowsOf book rows n b l → own ≡ owners 0 (uses (admitted_of b) 0 l)
