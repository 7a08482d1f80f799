use mathlib.Core.Path.{◌≡◌}
use lib.ListN.{take}
use Rattle.summary_rows.specs.RowCodes.{row_codes}
use Rattle.summary_rows.proofs.RowTask.put_row.Given as goal

abbrev pub invariant-loop-i : goal.invariant-loop-i
invariant-loop-i l = l.row ≡ row_codes l.number l.self.task.target.now (take l.i l.ks)
