use native.Mathlib.Omega.{arith}
use Rattle.spec.specs.Contents.{length_at}
use Rattle.contents.proofs.fields.length_at.Goals as goal

pub returns : goal.returns
unfolding length_at
returns c = omega arith
