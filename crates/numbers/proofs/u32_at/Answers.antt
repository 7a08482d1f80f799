use native.Mathlib.Omega.{arith}
use Rattle.spec.proofs.Bytes.NumberAt.{number-two, number-four}
use Rattle.numbers.proofs.u32_at.Goals as goal

pub returns : goal.returns
returns c = grind (arith, number-four, number-two)
