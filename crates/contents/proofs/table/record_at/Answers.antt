use Rattle.contents.proofs.Records.Filling.{record_is}
use Rattle.contents.proofs.table.record_at.Goals as goal

pub returns : goal.returns
returns c = record_is _ _ _ _ _ c.offset_at.ensures.0 c.length_at.ensures.0 c.stamp_at.ensures
