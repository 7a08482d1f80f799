use Rattle.lookahead.proofs.Looking.{UseGoesOn}
use Rattle.lookahead.proofs.use_end.Given as goal

abbrev pub invariant-loop-i : goal.invariant-loop-i
invariant-loop-i l = UseGoesOn l.lasts l.at l.i
