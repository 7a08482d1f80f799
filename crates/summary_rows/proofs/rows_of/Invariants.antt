use Prim.Native.Nat.{◌-◌}
use Rattle.task.specs.Held.{task_of}
use Rattle.summary_rows.proofs.ListSteps.{State}
use Rattle.summary_rows.proofs.rows_of.Given as goal

abbrev pub invariant-loop-row : goal.invariant-loop-row
invariant-loop-row l = State (task_of l.rows.task) l.rows.head l.number l.found l.initial.out l.out l.row l.count

abbrev pub decreases-loop-row : goal.decreases-loop-row
decreases-loop-row l = 64 - l.count
