use native.Mathlib.Omega.{arith}
use Rattle.summary_rows.proofs.ListSteps.{state-start, at_row, state-more, state-over, state-end}
use Rattle.summary_rows.proofs.rows_of.Goals as goal

pub loop-row-init : goal.loop-row-init
loop-row-init c = state-start _ _ _ _ _ c.requires _ c.first_row-row.ensures

pub returns-then-count-eq-MOST_ROWS : goal.returns-then-count-eq-MOST_ROWS
returns-then-count-eq-MOST_ROWS c = state-over _ _ _ _ _ c.requires _ _ _ (rw c.in-Some.is at c.loop-row.invariant) c.if-count-eq-MOST_ROWS.true

pub next_row-row-requires : goal.next_row-row-requires
next_row-row-requires c = (at_row _ _ _ _ _ c.requires _ _ _ (rw c.in-Some.is at c.loop-row.invariant)).1

pub loop-row-preserved : goal.loop-row-preserved
loop-row-preserved c = let s = (rw c.in-Some.is at c.loop-row.invariant) in state-more _ _ _ _ _ c.requires _ _ _ s (omega (arith, s.small)) _ c.put_row.ensures _ c.next_row-row.ensures

pub returns : goal.returns
returns c = state-end _ _ _ _ _ c.requires _ _ (rw c.in_default.is at c.loop-row.invariant)
