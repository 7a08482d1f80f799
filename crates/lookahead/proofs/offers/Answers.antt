use mathlib.Core.Path.{sym, ◌∙◌}
use Rattle.lookahead.proofs.Looking.{offering-start, offering-none, offering-more, offers-used, offers-all}
use Rattle.lookahead.proofs.offers.Goals as goal

pub loop-k-init : goal.loop-k-init
loop-k-init c = offering-start _ _ _ _

pub loop-k-preserved-then-not-offered : goal.loop-k-preserved-then-not-offered
loop-k-preserved-then-not-offered c =
    offering-none _ _ _ _ _ _ c.loop-k.invariant (rw c.if-not-offered.true at c.offered.ensures)

pub returns-then-holds : goal.returns-then-holds
returns-then-holds c =
    rw c.add-rows.ensures (offers-used _ _ _ _ _ _ c.loop-k-test.true c.loop-k.invariant (rw c.if-not-offered.false at c.offered.ensures) _ (sym c.holds.ensures ∙ c.if-holds.true))

pub loop-k-preserved : goal.loop-k-preserved
loop-k-preserved c =
    rw c.add-rows.ensures (offering-more _ _ _ _ _ _ c.loop-k-test.true c.loop-k.invariant (rw c.if-not-offered.false at c.offered.ensures))

pub returns : goal.returns
returns c = offers-all _ _ _ _ _ _ _ c.loop-k-test.false c.loop-k.invariant
