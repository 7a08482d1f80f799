use Rattle.rule_codes.proofs.TableSteps.{TableFrom}
use Rattle.rule_codes.proofs.tables.use_table.Given as goal

abbrev pub invariant-loop-i : goal.invariant-loop-i
invariant-loop-i l = TableFrom l.body l.row l.olds l.base l.i l.table
