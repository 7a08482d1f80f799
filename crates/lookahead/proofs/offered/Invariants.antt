use Rattle.task.specs.Held.{task_of}
use Rattle.lookahead.proofs.Looking.{Agreeable}
use Rattle.lookahead.proofs.offered.Given as goal

abbrev pub invariant-loop-a : goal.invariant-loop-a
invariant-loop-a l = Agreeable (task_of l.task) l.b l.i l.k l.a
