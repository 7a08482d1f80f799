use native.Mathlib.Omega.{arith}
use Rattle.spec.proofs.Bytes.NumberAt.{number-two}
use Rattle.numbers.proofs.u16_at.Goals as goal

pub returns : goal.returns
returns c = omega (arith, number-two c.args.bytes.now)
