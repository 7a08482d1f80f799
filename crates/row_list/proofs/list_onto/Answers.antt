use mathlib.Core.Path.{refl}
use Rattle.row_list.proofs.ListSteps.{count_room, tables_start, next-turn, tables-go, tables-over, tables_end}
use Rattle.row_list.proofs.list_onto.Goals as goal

pub count_of-i-end-requires : goal.count_of-i-end-requires
count_of-i-end-requires c = count_room c.requires.0

pub loop-i-init : goal.loop-i-init
loop-i-init c = tables_start _ _

pub rows_at-requires : goal.rows_at-requires
rows_at-requires c = next-turn c.requires.0 refl c.loop-i.invariant c.count_of-i-end.ensures c.requires.1 c.loop-i-test.true

pub returns-in_err-found : goal.returns-in_err-found
returns-in_err-found c = rw c.from_residual.ensures (tables-over c.requires.0 refl c.loop-i.invariant c.in_err-found.ensures)

pub loop-i-preserved : goal.loop-i-preserved
loop-i-preserved c = tables-go c.requires.0 refl c.loop-i.invariant c.in_ok-found.ensures

pub returns : goal.returns
returns c = tables_end c.requires.0 refl c.loop-i.invariant c.count_of-i-end.ensures c.loop-i-test.false c.loop-i.auto.i-end
