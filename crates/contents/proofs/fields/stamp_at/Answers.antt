use native.Mathlib.Omega.{arith}
use Rattle.spec.specs.Contents.{stamp_at}
use Rattle.contents.proofs.fields.stamp_at.Goals as goal

pub returns : goal.returns
unfolding stamp_at
returns c = omega arith
