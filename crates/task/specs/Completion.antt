-- Places that complete bindings, from some source subgoal on.
use Rattle.std.specs.Prelude.{List, ℕ, ◌-◌}
use Rattle.task.specs.Task.{Task, goals, Completes, Extends}

-- l completes the bindings b: the places of all source subgoals from at on
pub record Completion (p : Task) (at : ℕ) (b : List ℕ) (l : List ℕ) : Type 0 where
  pub val : ℕ → ℕ
  pub extends : Extends b val
  pub completes : Completes p (goals p - at) at val l
