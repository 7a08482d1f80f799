-- Summary by summary: what the rows of one add.
use Rattle.std.specs.Prelude.{◌≡◌, List, ℕ, ◌*◌, ◌≤◌, Option, Some}
use Rattle.std.proofs.Math.Option.{some, none}
use Rattle.spec.specs.Words.{Rule}
use Rattle.spec.specs.Summaries.{summary}
use Rattle.spec.specs.Book.{Book, admitted_of}
use Rattle.spec.specs.BookLayout.{SoundBook}
use Rattle.spec.specs.Table.{most_rows}
use Rattle.codes.specs.Code.{subgoal_size}
use Rattle.admission.specs.Admission.{HasSummary}
use Rattle.summary_rows.specs.RowsAfter.{RowsAfter}
use Rattle.summary_rows.specs.Tables.{TableTo}
use Rattle.row_list.specs.Placings.{TargetIs}

-- The target is that of the book's question.
pub record TargetNeeds (book target own : List ℕ) : Type 0 where
  pub is : (b : Book) → SoundBook book b → TargetIs b.question target own

-- The turn of one summary.
pub record TurnNeeds (book target own : List ℕ) (i found area : ℕ) : Type 0 where
  pub has : HasSummary book i
  pub onto : TargetNeeds book target own
  pub few : found ≤ most_rows
  pub room : subgoal_size * most_rows ≤ area

-- An admitted summary's rows come behind those found before; "A summary left out has no say".
pub record TurnSays (book : List ℕ) (i found : ℕ) (before after : List ℕ) (r : Option ℕ) : Type 0 where
  pub rows : (b : Book) → SoundBook book b → (v : Rule ℕ) → summary (admitted_of b) i ≡ some v → RowsAfter i v b.question found before after r
  pub left : (b : Book) → SoundBook book b → summary (admitted_of b) i ≡ none → (r ≡ Some found) × (after ≡ before)

-- The rows of the summaries 1 to i stand in the table.
pub record TablesTo (book : List ℕ) (i : ℕ) (before out : List ℕ) (count : ℕ) : Type 0 where
  pub table : (b : Book) → SoundBook book b → TableTo (admitted_of b) b.question i before out count
