use Rattle.task.specs.Held.{task_of}
use Rattle.summary_rows.proofs.FillLaw.{FrontFilled}
use Rattle.summary_rows.proofs.RowTask.row_with.Given as goal

abbrev pub invariant-loop-i : goal.invariant-loop-i
invariant-loop-i l = FrontFilled (task_of l.self.task) l.self.head l.j l.initial.all l.i l.all
