use Rattle.row_list.specs.Turns.{TablesTo}
use Rattle.row_list.proofs.list_onto.Given as goal

-- the rows of the first i summaries stand in the table
abbrev pub invariant-loop-i : goal.invariant-loop-i
invariant-loop-i l = TablesTo l.book l.i l.initial.out l.out l.found
