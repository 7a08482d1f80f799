use Rattle.task.specs.Held.{task_of}
use Rattle.lookahead.proofs.Looking.{Slotted}
use Rattle.lookahead.proofs.slots_of.Given as goal

abbrev pub invariant-loop-a : goal.invariant-loop-a
invariant-loop-a l = Slotted (task_of l.task) l.i l.set l.a l.slots
