use Rattle.row_list.proofs.AloneLaws.{alone-start, alone-more}
use Rattle.row_list.proofs.tasks.put_alone.Goals as goal

pub loop-k-init : goal.loop-k-init
loop-k-init c = alone-start _

pub loop-k-preserved : goal.loop-k-preserved
loop-k-preserved c = alone-more _ _ c.requires _ c.loop-k-test.true _ _ c.loop-k.invariant c.copy_from_slice.ensures.after
