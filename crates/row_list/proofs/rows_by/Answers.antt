use Rattle.row_list.proofs.RowsSteps.{rows-ready, rows-asked, rows-placed}
use Rattle.row_list.proofs.rows_by.Goals as goal

pub invariant_of-task : goal.invariant_of-task
invariant_of-task c = record { sized = (rows-ready c.requires c.put_source-goals.ensures c.head_count.ensures).sized }

pub invariant_of-rows : goal.invariant_of-rows
invariant_of-rows c = record { ready = rows-ready c.requires c.put_source-goals.ensures c.head_count.ensures }

pub rows_of-requires : goal.rows_of-requires
rows_of-requires c = rows-asked c.requires c.put_source-goals.ensures c.head_count.ensures

pub returns : goal.returns
returns c = rows-placed c.requires c.put_source-goals.ensures c.head_count.ensures c.rows_of.ensures
