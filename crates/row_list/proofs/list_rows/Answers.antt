use mathlib.Core.Path.{refl, sym}
use native.Mathlib.Omega.{arith}
use Rattle.spec.proofs.Bytes.Within.{entries-some}
use Rattle.row_list.proofs.OntoSteps.{loads-it, has-relations, question-is, question-rule, question-goals, targets-few, target-long, target-part, own-part, onto-question}
use Rattle.row_list.proofs.list_rows.Goals as goal

pub part_of-requires : goal.part_of-requires
part_of-requires c = (loads-it c.requires, entries-some _)

pub part_of-requires-2 : goal.part_of-requires-2
part_of-requires-2 c = (loads-it c.requires, has-relations c.requires)

pub put_target-targets-requires : goal.put_target-targets-requires
put_target-targets-requires c = ((question-is c.requires c.part_of-2.ensures c.part_of.ensures).known, question-goals c.requires c.part_of-2.ensures c.part_of.ensures, omega arith)

pub overflow_mul-target : goal.overflow_mul-target
overflow_mul-target c = omega (arith, targets-few c.requires c.part_of-2.ensures c.part_of.ensures refl c.put_target-targets.ensures)

pub slice_bounds-target-end : goal.slice_bounds-target-end
slice_bounds-target-end c = omega (arith, targets-few c.requires c.part_of-2.ensures c.part_of.ensures refl c.put_target-targets.ensures, target-long c.requires c.part_of-2.ensures c.part_of.ensures refl c.put_target-targets.ensures)

pub slice_bounds-question-end : goal.slice_bounds-question-end
slice_bounds-question-end c = sym (target-part c.requires c.part_of-2.ensures c.part_of.ensures refl c.put_target-targets.ensures)

pub slice_bounds-own-end : goal.slice_bounds-own-end
slice_bounds-own-end c = targets-few c.requires c.part_of-2.ensures c.part_of.ensures refl c.put_target-targets.ensures

pub slice_bounds-question-end-2 : goal.slice_bounds-question-end-2
slice_bounds-question-end-2 c = sym (own-part c.requires c.part_of-2.ensures c.part_of.ensures refl c.put_target-targets.ensures)

pub list_onto-requires : goal.list_onto-requires
list_onto-requires c = (c.requires, onto-question c.requires c.part_of-2.ensures c.part_of.ensures refl c.put_target-targets.ensures)

pub invariant_of-body : goal.invariant_of-body
invariant_of-body c = record { laid = question-rule c.requires c.part_of-2.ensures c.part_of.ensures }
