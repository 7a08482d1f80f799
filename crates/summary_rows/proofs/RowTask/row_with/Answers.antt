use Rattle.summary_rows.proofs.FillLaw.{some-place, filled_more}
use Rattle.summary_rows.proofs.RowTask.row_with.Goals as goal

pub unwrap-all-requires : goal.unwrap-all-requires
unwrap-all-requires c = some-place _ _ c.args.self.now.ready _ _ _ _ c.loop-i.invariant c.loop-i-test.true _ c.next_place.ensures

pub loop-i-preserved : goal.loop-i-preserved
loop-i-preserved c = filled_more _ _ c.args.self.now.ready _ _ _ _ c.loop-i.invariant c.loop-i-test.true _ (rw c.unwrap-all.ensures at c.next_place.ensures)
