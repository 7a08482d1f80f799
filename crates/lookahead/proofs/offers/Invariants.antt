use Rattle.task.specs.Held.{task_of}
use Rattle.lookahead.proofs.Looking.{Offering}
use Rattle.lookahead.proofs.offers.Given as goal

abbrev pub invariant-loop-k : goal.invariant-loop-k
invariant-loop-k l = Offering (task_of l.task) l.b l.allowed l.i l.k l.rows
