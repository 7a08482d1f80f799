use native.Mathlib.Omega.{arith}
use Rattle.rule_codes.proofs.HeadSteps.{bound-starts, bound-variable, bound-constant, bound-ends, term-room, variable-small}
use Rattle.rule_codes.proofs.heads.head_bindings.Goals as goal
use Rattle.rule_codes.proofs.heads.head_bindings.Goals.{then-body-at-eq0, else-body-at-eq0}

pub loop-k-init : goal.loop-k-init
loop-k-init c = bound-starts _

pub overflow_mul-at : goal.overflow_mul-at
overflow_mul-at c = omega (arith, term-room c.head_count-k-end.ensures c.loop-k-test.true c.loop-k.invariant c.requires)

pub overflow_add-at : goal.overflow_add-at
overflow_add-at c = omega (arith, term-room c.head_count-k-end.ensures c.loop-k-test.true c.loop-k.invariant c.requires)

pub bounds-body-at : goal.bounds-body-at
bounds-body-at c = omega (arith, term-room c.head_count-k-end.ensures c.loop-k-test.true c.loop-k.invariant c.requires)

pub overflow_add-at-then-body-at-eq0 : goal.overflow_add-at-then-body-at-eq0
overflow_add-at-then-body-at-eq0 c = omega (arith, term-room c.head_count-k-end.ensures c.loop-k-test.true c.loop-k.invariant c.requires)

pub u32_at-x-requires : goal.u32_at-x-requires
u32_at-x-requires c = omega (arith, term-room c.head_count-k-end.ensures c.loop-k-test.true c.loop-k.invariant c.requires)

pub bounds-bound-x : goal.bounds-bound-x
bounds-bound-x c = omega (arith, variable-small c.head_count-k-end.ensures c.loop-k-test.true c.loop-k.invariant c.if-body-at-eq0.true c.u32_at-x.ensures c.requires)

pub loop-k-preserved : goal.loop-k-preserved
loop-k-preserved c = elim c.if-body-at-eq0.branch [
  | then-body-at-eq0 w ↦ rw w.bound-is (bound-variable c.head_count-k-end.ensures c.loop-k-test.true c.loop-k.invariant w.if-body-at-eq0.true w.u32_at-x.ensures)
  | else-body-at-eq0 w ↦ rw w.bound-is (bound-constant c.head_count-k-end.ensures c.loop-k-test.true c.loop-k.invariant w.if-body-at-eq0.false)
]

pub returns : goal.returns
returns c = bound-ends c.head_count-k-end.ensures c.loop-k-test.false c.loop-k.invariant
