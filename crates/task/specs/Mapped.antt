-- What a task asks for: the places of a mapping, the first of them, and some that lie within few rows.
use Rattle.std.specs.Prelude.{◌⊎◌, List, cond, ◌≡◌, ℕ, ◌≤◌, zero, suc, ◌<◌, length, get_or, eqb}
use Rattle.spec.specs.Words.{◌∈◌}
use Rattle.spec.specs.Order.{ListBefore, First}
use Rattle.spec.specs.RuleLayout.{variables}
use Rattle.bits.specs.Sets.{Has}
use Rattle.task.specs.Task.{Task, row_of, goals, targets, last_of, Agrees, Extends}

-- The targets l lie in rows that are in use (a set) or among some that are taken: at most `left`, each of which may be taken (a set).
pub record InRows (p : Task) (used may left : ℕ) (l : List ℕ) : Type 0 where
  pub taken : List ℕ
  pub few : length taken ≤ left
  pub allowed : (row : ℕ) → row ∈ taken → Has may row
  pub each : (k : ℕ) → k ∈ l → Has used (row_of p k) ⊎ (row_of p k ∈ taken)

-- the use that the source subgoal i belongs to, counted from 0
unfoldable pub use_of : Task → ℕ → ℕ
use_of p zero = 0
use_of p (suc i) = cond (eqb (last_of p i) 0) (use_of p i) (suc (use_of p i))

-- val says each use's values; under those of its own use the source subgoal i becomes the target k
pub record Lands (p : Task) (val : ℕ → ℕ → ℕ) (i k : ℕ) : Type 0 where
  pub within : k < targets p
  pub agrees : Agrees p (val (use_of p i)) i k

-- l has, for each source subgoal, the target that it becomes under one value for each shared variable and one for each use's own.
pub record Mapped (p : Task) (b l : List ℕ) : Type 0 where
  pub val : ℕ → ℕ → ℕ
  pub shared : (u w x : ℕ) → x < variables → val u x ≡ val w x
  -- what is bound from the start
  pub given : Extends b (val 0)
  pub long : length l ≡ goals p
  pub lands : (i : ℕ) → i < goals p → Lands p val i (get_or l i 0)

abbrev pub FirstMapped : Task → List ℕ → List ℕ → Type 0
FirstMapped p b = First (Mapped p b) (ListBefore ◌<◌)

-- Some mapping whose targets lie in the rows in use and at most `left` others, each of which may be taken.
pub record Feasible (p : Task) (b : List ℕ) (used may left : ℕ) : Type 0 where
  pub places : List ℕ
  pub mapped : Mapped p b places
  pub within : InRows p used may left places
