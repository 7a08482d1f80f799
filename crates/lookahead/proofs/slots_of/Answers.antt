use native.Mathlib.Omega.{arith}
use Rattle.lookahead.proofs.Looking.{slotted-start, slotted-more, slotted-end}
use Rattle.lookahead.proofs.slots_of.Goals as goal

pub loop-a-init : goal.loop-a-init
loop-a-init c = slotted-start _ _ _

pub loop-a-preserved : goal.loop-a-preserved
loop-a-preserved c =
    rw (c.noted-slots.ensures, c.source_term.ensures) (slotted-more _ _ _ _ _ c.loop-a.invariant)

pub returns : goal.returns
returns c = slotted-end _ _ _ _ _ (omega (arith, c.width-a-end.ensures.0, c.loop-a-test.false)) c.loop-a.invariant
