use Rattle.task.specs.Held.{task_of}
use Rattle.first_shortest.specs.Passing.{Underway}
use Rattle.first_shortest.proofs.RowSearch.first_rows.Given as goal

abbrev pub invariant-loop-row : goal.invariant-loop-row
invariant-loop-row l = Underway (task_of l.self.task) l.self.bound l.self.n l.row l.pass
