-- One source subgoal on its target, and what is bound from there on.
use Rattle.std.specs.Prelude.{Bool, true, false, ◌≡◌, List, ℕ, ◌<◌, length}
use Rattle.codes.specs.Code.{most_slots}
use Rattle.task.specs.Task.{Task, targets, Agrees, Linked, Extends}

-- what is bound for the next subgoal, h, is what values have that serve it after some that have b and take the source subgoal i to the target k
pub record CarriedOn (p : Task) (b : List ℕ) (i k : ℕ) (h : List ℕ) : Type 0 where
  pub within : k < targets p
  pub long : length h ≡ most_slots
  pub after : (v w : ℕ → ℕ) → Extends b v → Agrees p v i k → Linked p i v w → Extends h w
  pub over : (w : ℕ → ℕ) → Extends h w → (v : ℕ → ℕ) × Extends b v × Agrees p v i k × Linked p i v w

pub record Leads (p : Task) (b : List ℕ) (i k : ℕ) (ok : Bool) (h : List ℕ) : Type 0 where
  pub passed : ok ≡ true → CarriedOn p b i k h
  -- no values that have b take the source subgoal to the target
  pub never : ok ≡ false → k < targets p → (v : ℕ → ℕ) → Extends b v → Agrees p v i k → ⊥
