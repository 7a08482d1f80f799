use mathlib.Core.Path.{◌∙◌}
use native.Mathlib.Omega.{arith}
use Rattle.row_choice.proofs.AgainstSteps.{in_order, part-inside, some_pair, passed-starts, passed-adds, passed-skips, passed-ends}
use Rattle.row_choice.proofs.dominators.those_over.Goals as goal
use Rattle.row_choice.proofs.dominators.those_over.Goals.{then-goes_into, else-goes_into}

pub loop-d-init : goal.loop-d-init
loop-d-init c = passed-starts

pub slice_bounds-goes_into-count : goal.slice_bounds-goes_into-count
slice_bounds-goes_into-count c = omega (arith, in_order c.requires _ c.loop-d-test.true)

pub slice_bounds-goes_into-start : goal.slice_bounds-goes_into-start
slice_bounds-goes_into-start c = omega (arith, in_order c.requires _ c.loop-d-test.true)

pub slice_bounds-goes_into-end : goal.slice_bounds-goes_into-end
slice_bounds-goes_into-end c = part-inside c.requires _ c.loop-d-test.true

pub goes_into-requires : goal.goes_into-requires
goes_into-requires c = some_pair c.requires _ c.loop-d-test.true

pub loop-d-preserved : goal.loop-d-preserved
loop-d-preserved c =
    let told = c.goes_into.ensures in
    elim c.if-goes_into.branch [
      | then-goes_into w ↦ passed-adds c.loop-d-test.true c.loop-d.invariant w.if-goes_into.true told (w.set-is ∙ w.add-set.ensures)
      | else-goes_into w ↦ passed-skips c.loop-d-test.true c.loop-d.invariant w.if-goes_into.false told w.set-is
    ]

pub returns : goal.returns
returns c = passed-ends (omega arith) c.loop-d-test.false c.loop-d.invariant
