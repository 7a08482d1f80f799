use mathlib.Core.Path.{◌≡◌, ap}
use Prim.Native.Nat.{◌-◌}
use native.Mathlib.Omega.{arith}
use lib.Pow.{ones_lt}
use Rattle.bits.specs.Sets.{first}
use Rattle.bits.proofs.Less.{bit_is}
use Rattle.bits.proofs.below.Goals as goal

pub overflow_sub-result : goal.overflow_sub-result
overflow_sub-result c = omega (arith, bit_is c.args.n (omega arith), ones_lt c.args.n)

pub returns-then-n-lt64 : goal.returns-then-n-lt64
unfolding first
returns-then-n-lt64 c = ap (λ m. m - 1) (bit_is _ (omega arith))

pub returns : goal.returns
unfolding first
returns c = let e : c.args.n ≡ 64 = omega arith in rw e
