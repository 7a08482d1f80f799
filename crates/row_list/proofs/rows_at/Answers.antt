use native.Mathlib.Omega.{arith}
use Rattle.spec.proofs.Bytes.BookPasses.{book-loads}
use Rattle.admission.proofs.Standing.{entry-there}
use Rattle.rule_codes.proofs.RuleLaid.{rule-there}
use Rattle.row_list.proofs.TurnLaws.{some-placing, turn_in, turn-out}
use Rattle.row_list.proofs.rows_at.Goals as goal

pub part_of-relations-requires : goal.part_of-relations-requires
part_of-relations-requires c = (book-loads c.requires.has.sound, omega (arith, entry-there c.requires.has))

pub part_of-bytes-requires : goal.part_of-bytes-requires
part_of-bytes-requires c = (book-loads c.requires.has.sound, entry-there c.requires.has)

pub rows_by-requires : goal.rows_by-requires
rows_by-requires c = some-placing c.requires.has c.requires.onto c.part_of-relations.ensures c.part_of-bytes.ensures c.requires.few c.requires.room

pub returns-then-is_in : goal.returns-then-is_in
returns-then-is_in c = turn_in c.requires.has c.requires.onto c.part_of-relations.ensures c.part_of-bytes.ensures c.is_in.ensures c.if-is_in.true c.rows_by.ensures

pub returns : goal.returns
returns c = turn-out c.requires.has _ _ _ c.is_in.ensures c.if-is_in.false

pub invariant_of-summary : goal.invariant_of-summary
invariant_of-summary c = record { laid = rule-there (some-placing c.requires.has c.requires.onto c.part_of-relations.ensures c.part_of-bytes.ensures c.requires.few c.requires.room).is.summary.layout }
