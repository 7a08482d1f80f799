use Rattle.row_choice.proofs.TableSteps.{TableFilled}
use Rattle.row_choice.proofs.dominance.Given as goal

abbrev pub invariant-loop-r : goal.invariant-loop-r
invariant-loop-r l = TableFilled l.rows.book.now l.rows.codes.now l.rows.count l.r l.table
