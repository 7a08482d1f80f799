use Rattle.task.specs.Held.{task_of}
use Rattle.summary_rows.proofs.PlaceLaw.{TargetsTried}
use Rattle.summary_rows.proofs.RowTask.next_place.Given as goal

abbrev pub invariant-loop-k : goal.invariant-loop-k
invariant-loop-k l = TargetsTried (task_of l.self.task) l.self.head l.j l.ks l.from l.k
