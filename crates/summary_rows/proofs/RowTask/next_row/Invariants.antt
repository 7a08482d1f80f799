use Rattle.task.specs.Held.{task_of}
use Rattle.summary_rows.proofs.NextLaw.{Gone}
use Rattle.summary_rows.proofs.RowTask.next_row.Given as goal

abbrev pub invariant-loop-j : goal.invariant-loop-j
invariant-loop-j l = Gone (task_of l.self.task) l.self.head l.ks l.j
