-- The answers on a task: the places of the first mapping, and whether some lie within few rows.
use Rattle.std.specs.Prelude.{Bool, true, ◌≡◌, ◌↔◌, List, ◌++◌, ℕ, ◌-◌, ◌<◌, length, replicate, Option, Some, None}
use Rattle.spec.specs.Order.{ListBefore, First}
use Rattle.codes.specs.Code.{uses_goals}
use Rattle.task.specs.Task.{Task}
use Rattle.task.specs.Mapped.{Feasible, Mapped}

-- the places l in an array, from at on; the other places are 0
abbrev pub laid : ℕ → List ℕ → List ℕ
laid at l = replicate at 0 ++ (l ++ replicate (uses_goals - at - length l) 0)

-- ks are the first of the lists that serve, as places from `at` on
abbrev pub FirstLaid : (List ℕ → Type 0) → ℕ → List ℕ → Type 0
FirstLaid Serves at ks = (l : List ℕ) × (ks ≡ laid at l) × First Serves (ListBefore ◌<◌) l

-- the first of them; or that there is none
abbrev pub FirstOf : (List ℕ → Type 0) → ℕ → Option (List ℕ) → Type 0
FirstOf Serves at (Some ks) = FirstLaid Serves at ks
FirstOf Serves at None = (l : List ℕ) → Serves l → ⊥

-- "the first, byte by byte, that gives a containment mapping"
abbrev pub FirstPlaces : Task → List ℕ → Option (List ℕ) → Type 0
FirstPlaces p b = FirstOf (Mapped p b) 0

pub record Enough (p : Task) (b : List ℕ) (used may left : ℕ) (answer : Bool) : Type 0 where
  pub exactly : (answer ≡ true) ↔ Feasible p b used may left
