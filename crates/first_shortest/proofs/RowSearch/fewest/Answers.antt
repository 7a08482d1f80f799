use native.Mathlib.Omega.{arith}
use Rattle.first_shortest.proofs.Steps.{can-do, never-do}
use Rattle.first_shortest.proofs.RowSearch.fewest.Goals as goal

pub returns-then-not-can : goal.returns-then-not-can
returns-then-not-can c = record { never = never-do c.can.ensures c.below-all.ensures c.if-not-can.true }

pub returns : goal.returns
returns c = record {
  few = omega arith;
  fewer = λ j h. c.loop-k.invariant j (omega arith);
  can = can-do c.can.ensures c.below-all.ensures c.if-not-can.false;
}
