-- The steps of the choice, and what is known between them.
use Rattle.std.specs.Prelude.{◌≡◌, Bool, cond, List, Option, Some, None, ℕ, ◌+◌, ◌-◌, ◌<◌, ◌≤◌, length, take, drop, replicate, set}
use Rattle.spec.specs.Words.{Rule}
use Rattle.spec.specs.Summaries.{Summaries}
use Rattle.spec.specs.BookLayout.{question_most}
use Rattle.spec.proofs.Decided.Rows.{RowList}
use Rattle.choice_theory.specs.Going.{PassState}
use Rattle.choice_theory.specs.Marked.{Marked}
use Rattle.bits.specs.Sets.{Has, with, without, first}
use Rattle.task.specs.Task.{Task}
use Rattle.task.specs.Mapped.{Feasible}
use Rattle.placing.specs.FirstPlaces.{Enough}
use Rattle.first_shortest.specs.Posed.{PosedBy}
use Rattle.first_shortest.specs.declared.pass.Pass.{Pass}

abbrev pub starting : ℕ → ℕ → Pass
starting n k = record { used = 0; may = first n; left = k; chosen = record { k = 0; rows = replicate question_most 0 } }

abbrev pub taking : Pass → ℕ → Pass
taking p row = record { used = with p.used row; may = without p.may row; left = p.left - 1; chosen = record { k = p.chosen.k + 1; rows = set p.chosen.rows p.chosen.k row } }

abbrev pub passing : Pass → ℕ → Pass
passing p row = record { used = p.used; may = without p.may row; left = p.left; chosen = p.chosen }

-- k rows of the n can do, and fewer cannot
pub record Fewest (t : Task) (b : List ℕ) (n k : ℕ) : Type 0 where
  pub few : k ≤ question_most
  pub fewer : (j : ℕ) → j < k → Feasible t b 0 (first n) j → ⊥
  pub can : Feasible t b 0 (first n) k

-- 12 cannot, nor fewer
pub record TooFew (t : Task) (b : List ℕ) (n : ℕ) : Type 0 where
  pub never : (j : ℕ) → j ≤ question_most → Feasible t b 0 (first n) j → ⊥

abbrev pub FewestIfAny : Task → List ℕ → ℕ → Option ℕ → Type 0
FewestIfAny t b n (Some k) = Fewest t b n k
FewestIfAny t b n None = TooFew t b n

-- The row is taken if with it, and one fewer to take, the others that may be can still do.
pub record Tried (t : Task) (b : List ℕ) (row : ℕ) (p after : Pass) : Type 0 where
  pub answer : Bool
  pub exactly : Enough t b (with p.used row) (without p.may row) (p.left - 1) answer
  pub result : after ≡ cond answer (taking p row) (passing p row)

-- Underway, at the row `row`: those taken are marked as used, those from `row` on may be.
pub record UnderwayBy (s : Summaries) (q : Rule ℕ) (rows : RowList) (row : ℕ) (p : Pass) : Type 0 where
  pub going : PassState s q rows (take p.chosen.k p.chosen.rows) row p.left
  pub marked : Marked (length rows) (Has p.used) (Has p.may) (take p.chosen.k p.chosen.rows) row

pub record Underway (t : Task) (b : List ℕ) (n row : ℕ) (p : Pass) : Type 0 where
  pub few : p.chosen.k + p.left ≤ question_most
  pub long : length p.chosen.rows ≡ question_most
  pub rest : drop p.chosen.k p.chosen.rows ≡ replicate (question_most - p.chosen.k) 0
  pub by : (s : Summaries) (q : Rule ℕ) (rows : RowList) → PosedBy s q rows t b n → UnderwayBy s q rows row p
