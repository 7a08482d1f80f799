use mathlib.Core.Path.{ap₂}
use native.Mathlib.Omega.{arith}
use lib.Bits.{bit_xor}
use Rattle.bits.specs.Sets.{without}
use Rattle.bits.proofs.Less.{bit_is}
use Rattle.bits.proofs.remove.Goals as goal

pub returns : goal.returns
unfolding without
returns c = ap₂ bit_xor c.add.ensures (bit_is c.args.x (omega arith))
