use mathlib.Core.Path.{sym}
use native.Mathlib.Omega.{arith}
use lib.Seq.{length-take-le}
use Rattle.row_choice.proofs.AskedLaws.{asked-given, asked-few}
use Rattle.row_choice.proofs.ExpandSteps.{goals-few, all-targets, all-owners}
use Rattle.row_choice.proofs.choose_rows.Goals as goal

pub expand-goals-requires : goal.expand-goals-requires
expand-goals-requires c = let few = asked-few c.requires in (asked-given c.requires, few, omega arith, omega arith, omega arith)

pub overflow_mul-target : goal.overflow_mul-target
overflow_mul-target c = omega (arith, goals-few (asked-given c.requires) (asked-few c.requires) c.expand-goals.ensures.0)

pub slice_bounds-target-end : goal.slice_bounds-target-end
slice_bounds-target-end c = omega (arith, goals-few (asked-given c.requires) (asked-few c.requires) c.expand-goals.ensures.0)

pub slice_bounds-choose_onto-end : goal.slice_bounds-choose_onto-end
slice_bounds-choose_onto-end c = sym (length-take-le _ _ (omega (arith, goals-few (asked-given c.requires) (asked-few c.requires) c.expand-goals.ensures.0)))

pub slice_bounds-own-end : goal.slice_bounds-own-end
slice_bounds-own-end c = omega (arith, goals-few (asked-given c.requires) (asked-few c.requires) c.expand-goals.ensures.0)

pub slice_bounds-choose_onto-end-2 : goal.slice_bounds-choose_onto-end-2
slice_bounds-choose_onto-end-2 c = sym (length-take-le _ _ (omega (arith, goals-few (asked-given c.requires) (asked-few c.requires) c.expand-goals.ensures.0)))

pub choose_onto-requires : goal.choose_onto-requires
choose_onto-requires c = let e = c.expand-goals.ensures in (c.requires, all-targets e.0 e.1, all-owners e.0 e.2)
