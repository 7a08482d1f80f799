use Rattle.row_choice.proofs.AgainstSteps.{RowsCompared}
use Rattle.row_choice.proofs.dominators.those_over.Given as goal

abbrev pub invariant-loop-d : goal.invariant-loop-d
invariant-loop-d l = RowsCompared l.source l.widths l.target l.starts l.n l.d l.set
