use Rattle.first_shortest.proofs.Dropped.{pruned-next}
use Rattle.first_shortest.proofs.RowSearch.pruned.Goals as goal

pub loop-row-preserved : goal.loop-row-preserved
loop-row-preserved c = pruned-next c.loop-row.invariant c.loop-row-test.true c.spared-kept.ensures
