use Rattle.contents.proofs.Records.Filling.{Filled}
use Rattle.contents.proofs.table.load_table.Given as goal

-- The first i records are filled.
abbrev pub invariant-loop-i : goal.invariant-loop-i
invariant-loop-i l = Filled l.book l.record-items l.i
