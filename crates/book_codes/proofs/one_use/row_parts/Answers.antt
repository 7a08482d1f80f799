use native.Mathlib.Omega.{arith}
use Rattle.book_codes.proofs.RowUse.{first_part, summary-part, summary-few, summary-rule}
use Rattle.book_codes.proofs.one_use.row_parts.Goals as goal

pub overflow_add-row : goal.overflow_add-row
overflow_add-row c = omega (arith, summary-few c.requires)

pub part_of-requires : goal.part_of-requires
part_of-requires c = summary-part c.requires

pub part_of-requires-2 : goal.part_of-requires-2
part_of-requires-2 c = first_part c.requires

pub invariant_of-summary : goal.invariant_of-summary
invariant_of-summary c = record { laid = summary-rule c.requires c.part_of.ensures c.part_of-2.ensures }
