use Rattle.lookahead.proofs.Looking.{going_start, going_more, going-ends, going-whole}
use Rattle.lookahead.proofs.use_end.Goals as goal

pub loop-i-init : goal.loop-i-init
loop-i-init c = going_start _ _

pub returns-then-lasts-i-ne0 : goal.returns-then-lasts-i-ne0
returns-then-lasts-i-ne0 c =
    going-ends _ _ _ c.loop-i-test.true c.loop-i.invariant c.if-lasts-i-ne0.true

pub loop-i-preserved : goal.loop-i-preserved
loop-i-preserved c =
    going_more _ _ _ c.loop-i.invariant c.if-lasts-i-ne0.false

pub returns : goal.returns
returns c = going-whole _ _ _ c.loop-i-test.false c.loop-i.invariant
