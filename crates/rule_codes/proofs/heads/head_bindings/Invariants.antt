use Rattle.rule_codes.proofs.HeadSteps.{BoundSoFar}
use Rattle.rule_codes.proofs.heads.head_bindings.Given as goal

abbrev pub invariant-loop-k : goal.invariant-loop-k
invariant-loop-k l = BoundSoFar l.body l.k l.bound
