use Prim.Native.Nat.{ℕ, ◌<◌}
use Rattle.bits.specs.Sets.{first}
use Rattle.task.specs.Held.{task_of}
use Rattle.task.specs.Mapped.{Feasible}
use Rattle.first_shortest.proofs.RowSearch.fewest.Given as goal

abbrev pub invariant-loop-k : goal.invariant-loop-k
invariant-loop-k l = (j : ℕ) → j < l.k → Feasible (task_of l.self.task) l.self.bound 0 (first l.self.n) j → ⊥
