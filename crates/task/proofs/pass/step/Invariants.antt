use Rattle.task.specs.Held.{task_of}
use Rattle.task.proofs.Stepping.{Guessed}
use Rattle.task.proofs.pass.step.Given as goal

abbrev pub invariant-loop-a : goal.invariant-loop-a
invariant-loop-a l = Guessed (task_of l.task) l.initial.g l.i l.k l.a l.g
