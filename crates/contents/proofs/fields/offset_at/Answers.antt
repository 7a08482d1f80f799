use native.Mathlib.Omega.{arith}
use Rattle.spec.specs.Contents.{offset_at}
use Rattle.contents.proofs.fields.offset_at.Goals as goal

pub returns : goal.returns
unfolding offset_at
returns c = omega arith
