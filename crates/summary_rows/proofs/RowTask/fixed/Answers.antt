use mathlib.Core.Path.{refl}
use lib.ListN.{length-set}
use Rattle.summary_rows.proofs.FixingSteps.{fixing-start, fixing_step}
use Rattle.summary_rows.proofs.RowTask.fixed.Goals as goal

pub loop-i-init : goal.loop-i-init
loop-i-init c = (refl, fixing-start _ _ _)

pub loop-i-preserved : goal.loop-i-preserved
loop-i-preserved c =
    let l = c.loop-i in
    (simp length-set l.invariant.0, fixing_step _ _ _ _ _ _ _ _ l.invariant.1 c.source_term-slot.ensures c.from.ensures c.target_term.ensures)
