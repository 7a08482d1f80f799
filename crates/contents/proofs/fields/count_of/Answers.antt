use native.Mathlib.Omega.{arith}
use Rattle.spec.specs.Contents.{count}
use Rattle.contents.proofs.fields.count_of.Goals as goal

pub returns : goal.returns
unfolding count
returns c = omega arith
