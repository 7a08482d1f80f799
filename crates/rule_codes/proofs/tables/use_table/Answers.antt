use Rattle.rule_codes.proofs.TableSteps.{place_down, variable-down, table-down}
use native.Mathlib.Omega.{arith}
use Rattle.rule_codes.proofs.TableSteps.{from-starts, from-ends}
use Rattle.rule_codes.proofs.tables.use_table.Goals as goal

pub loop-i-init : goal.loop-i-init
loop-i-init c = from-starts _ _ _ _ _ _ c.head_count-i.ensures c.base_table-table.ensures

pub overflow_mul-i : goal.overflow_mul-i
overflow_mul-i c = let p = place_down _ _ _ _ _ c.loop-i-test.true _ c.loop-i.invariant c.requires.0 in let r = p.here.room in omega arith

pub overflow_add-i : goal.overflow_add-i
overflow_add-i c = let p = place_down _ _ _ _ _ c.loop-i-test.true _ c.loop-i.invariant c.requires.0 in let r = p.here.room in omega arith

pub u32_at-x-requires : goal.u32_at-x-requires
u32_at-x-requires c = let p = place_down _ _ _ _ _ c.loop-i-test.true _ c.loop-i.invariant c.requires.0 in let r = p.here.room in omega arith

pub offset_bounds-row-i : goal.offset_bounds-row-i
offset_bounds-row-i c = let p = place_down _ _ _ _ _ c.loop-i-test.true _ c.loop-i.invariant c.requires.0 in let r = p.room in omega arith

pub bounds-row-i : goal.bounds-row-i
bounds-row-i c = (place_down _ _ _ _ _ c.loop-i-test.true _ c.loop-i.invariant c.requires.0).room

pub old_code-requires : goal.old_code-requires
old_code-requires c =
    let p = place_down _ _ _ _ _ c.loop-i-test.true _ c.loop-i.invariant c.requires.0 in
    (record { term = p.term; within = p.within; is = p.code }, c.requires.1)

pub bounds-table-x : goal.bounds-table-x
bounds-table-x c = variable-down _ _ _ _ _ c.loop-i-test.true _ c.loop-i.invariant c.requires.0 _ _ c.u32_at-x.ensures c.old_code.ensures

pub loop-i-preserved : goal.loop-i-preserved
loop-i-preserved c = table-down _ _ _ _ _ c.loop-i-test.true _ c.loop-i.invariant _ _ c.u32_at-x.ensures c.old_code.ensures

pub returns : goal.returns
returns c = from-ends _ _ _ _ _ _ c.loop-i-test.false c.loop-i.invariant
