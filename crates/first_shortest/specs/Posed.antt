-- What the choice of rows is asked for: the question, as a source, and the uses of all its summary rows, as targets, on codes.
use Rattle.std.specs.Prelude.{◌≡◌, List, ℕ, ◌≤◌, length}
use Rattle.spec.specs.Words.{Rule}
use Rattle.spec.specs.Summaries.{Summaries, SummaryRow, uses}
use Rattle.spec.specs.Order.{RowBefore}
use Rattle.spec.proofs.Lists.Enumerate.{Enumerates}
use Rattle.spec.specs.Table.{most_rows}
use Rattle.spec.proofs.Decided.Rows.{RowList}
use Rattle.choice_theory.specs.Placed.{owners}
use Rattle.outcomes.specs.Bounds.{Bounds, RowsWithin}
use Rattle.task.specs.Task.{Task}
use Rattle.search_meaning.specs.HeadBound.{HeadBound}
use Rattle.search_meaning.specs.Tasks.{there_task}

-- The task is that of a sound question q over sound summaries s, whose n summary rows are `rows`, each row's targets in the row of its number.
pub record PosedBy (s : Summaries) (q : Rule ℕ) (rows : RowList) (t : Task) (b : List ℕ) (n : ℕ) : Type 0 where
  pub arities : List ℕ
  pub bounds : Bounds arities s q
  -- all "summary rows", "sorted", "equal rows once"
  pub all : Enumerates (SummaryRow s q) RowBefore rows
  pub within : RowsWithin s rows
  pub count : length rows ≡ n
  pub few : n ≤ most_rows
  pub codes : t ≡ there_task s q rows t.lasts (owners 0 (uses s 0 rows))
  pub marked : length t.lasts ≡ length q.body
  pub head : HeadBound q.head b

-- It is that of some question.
pub record Posed (t : Task) (b : List ℕ) (n : ℕ) : Type 0 where
  pub summaries : Summaries
  pub question : Rule ℕ
  pub rows : RowList
  pub by : PosedBy summaries question rows t b n
