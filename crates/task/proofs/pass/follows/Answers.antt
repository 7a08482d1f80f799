use borrow.Author.Rules.{rules}
use borrow.Author.Tests.{not-false}
use Rattle.task.proofs.Going.{going_start, going_end, going-never, going_more}
use Rattle.task.proofs.pass.follows.Goals as goal

pub loop-i-init : goal.loop-i-init
loop-i-init c = going_start _ _ _

pub returns-then-not-step : goal.returns-then-not-step
returns-then-not-step c = going-never _ _ _ _ _ c.loop-i.invariant (search rules) c.args.task.now.sized.few c.loop-i-test.true _ _ c.step.ensures c.if-not-step.true

pub loop-i-preserved : goal.loop-i-preserved
loop-i-preserved c = going_more _ _ _ _ _ c.loop-i.invariant (search rules) c.args.task.now.sized.few c.loop-i-test.true _ _ c.step.ensures (not-false _ c.if-not-step.false-raw)

pub returns : goal.returns
returns c = going_end _ _ _ _ _ c.loop-i.invariant c.loop-i-test.false
