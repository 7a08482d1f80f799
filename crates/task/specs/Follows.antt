-- Whether places that are given are those of a mapping.
use Rattle.std.specs.Prelude.{Bool, true, ◌≡◌, ◌↔◌, List, ℕ, take}
use Rattle.task.specs.Task.{Task, goals}
use Rattle.task.specs.Mapped.{Mapped}

-- ks has a place for each source subgoal, and perhaps more after them
pub record Follows (p : Task) (b ks : List ℕ) (r : Bool) : Type 0 where
  pub exactly : (r ≡ true) ↔ Mapped p b (take (goals p) ks)
