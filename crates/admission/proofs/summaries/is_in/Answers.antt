use Rattle.admission.proofs.Standing.{need-room, stamp-room, says-in}
use Rattle.admission.proofs.summaries.is_in.Goals as goal

pub stamp_at-need-requires : goal.stamp_at-need-requires
stamp_at-need-requires c = need-room c.requires

pub stamp_at-stamp-requires : goal.stamp_at-stamp-requires
stamp_at-stamp-requires c = stamp-room c.requires

pub returns : goal.returns
returns c = says-in _ _ _ _ _ c.stamp_at-need.ensures c.stamp_at-stamp.ensures c.is_admitted.ensures
