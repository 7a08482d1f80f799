use Rattle.rules.proofs.Runs.{run-stops, run-goes}
use Rattle.rules.proofs.subgoals.read_many.Goals as goal

pub returns-in_default : goal.returns-in_default
returns-in_default g c = c.loop.invariant _ (run-stops _ c.args.k c.loop.counter c.loop-test.true c.loop.front _ c.read_one-step.ensures _ c.in_default.is)

pub loop-preserved : goal.loop-preserved
loop-preserved g c = λ r w. c.loop.invariant r (run-goes _ c.args.k c.loop.counter c.loop-test.true c.loop.front _ c.read_one-step.ensures _ r c.in-Ok.is w)
