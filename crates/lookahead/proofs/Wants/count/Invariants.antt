use Rattle.lookahead.proofs.Looking.{Serving}
use Rattle.lookahead.proofs.Wants.count.Given as goal

abbrev pub invariant-loop-x : goal.invariant-loop-x
invariant-loop-x l = Serving l.initial.many-items l.rows l.x l.many-items
