use native.Mathlib.Omega.{arith}
use Rattle.spec.specs.BookLayout.{entries}
use Rattle.contents.proofs.fields.entries_of.Goals as goal

pub returns : goal.returns
unfolding entries
returns c = omega arith
