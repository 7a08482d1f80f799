-- Rows that others dominate.
use Rattle.std.specs.Prelude.{◌≡◌, Bool, true, cond, ◌↔◌, List, ℕ, ◌<◌, length, get_or}
use Rattle.std.specs.Int.Bits.{bit_or}
use Rattle.spec.specs.Words.{Rule}
use Rattle.spec.specs.Summaries.{Summaries, in_place}
use Rattle.spec.specs.Table.{most_rows}
use Rattle.spec.proofs.Decided.Rows.{RowList}
use Rattle.choice_theory.specs.Numbered.{row_at}
use Rattle.choice_theory.specs.Can.{CanBy}
use Rattle.choice_theory.specs.Dominates.{Dominates}
use Rattle.outcomes.specs.Bounds.{Bounds, RowsWithin}
use Rattle.bits.specs.Sets.{Has, without, Meets}
use Rattle.task.specs.Task.{Task}
use Rattle.search_meaning.specs.Tasks.{use_task}
use Rattle.first_shortest.specs.Posed.{Posed}

-- Of n rows: what stands in the table for a row is a set of rows that dominate it. Not all of them need be there.
pub record Table (s : Summaries) (rows : RowList) (n : ℕ) (dom : List ℕ) : Type 0 where
  pub within : (r d : ℕ) → r < n → Has (get_or dom r 0) d → d < n
  pub sound : (r d : ℕ) → r < n → Has (get_or dom r 0) d → Dominates s rows d r

-- The task of some question, with a table of its rows.
pub record FeasibilityNeeds (t : Task) (b : List ℕ) (n : ℕ) (dom : List ℕ) : Type 0 where
  pub task : Posed t b n
  pub table : Table task.summaries task.rows n dom

-- The row is dropped exactly if a row other than it is in `over`, and is used or may be.
pub record Spared (used may over row r : ℕ) : Type 0 where
  pub drops : Bool
  pub exactly : Meets (without over row) (bit_or used may) drops
  pub result : r ≡ cond drops (without may row) may

-- With fewer rows that may be taken the used rows can be completed just as before.
pub record Pruned (dom : List ℕ) (n used may fewer : ℕ) : Type 0 where
  pub less : (row : ℕ) → Has fewer row → Has may row
  pub same : (s : Summaries) (q : Rule ℕ) (rows : RowList) → length rows ≡ n → Table s rows n dom
      → (b : ℕ) → CanBy s q rows (Has used) (Has may) b ↔ CanBy s q rows (Has used) (Has fewer) b

-- The task from the use of row r to the use of row d, of some sound book's rows.
pub record UsesBy (s : Summaries) (rows : RowList) (d r : ℕ) (t : Task) : Type 0 where
  pub arities : List ℕ
  pub question : Rule ℕ
  pub bounds : Bounds arities s question
  pub within : RowsWithin s rows
  pub over : d < length rows
  pub under : r < length rows
  pub codes : t ≡ use_task s r (row_at rows r) d (row_at rows d) t.lasts t.own
  pub marked : length t.lasts ≡ length (in_place s r (row_at rows r))
  pub owned : length t.own ≡ length (in_place s d (row_at rows d))
  pub sets : (k : ℕ) → get_or t.own k 0 < most_rows

pub record DominanceNeeds (t : Task) : Type 0 where
  pub summaries : Summaries
  pub rows : RowList
  pub over : ℕ
  pub under : ℕ
  pub by : UsesBy summaries rows over under t

pub record DominanceSays (t : Task) (answer : Bool) : Type 0 where
  pub exactly : (s : Summaries) (rows : RowList) (d r : ℕ) → UsesBy s rows d r t → (answer ≡ true) ↔ Dominates s rows d r
