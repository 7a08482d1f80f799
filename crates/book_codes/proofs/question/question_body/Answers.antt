use Rattle.book_codes.proofs.Laid.{first_part, question-part, question-rule}
use Rattle.book_codes.proofs.question.question_body.Goals as goal

pub part_of-requires : goal.part_of-requires
part_of-requires c = question-part c.requires

pub part_of-requires-2 : goal.part_of-requires-2
part_of-requires-2 c = first_part c.requires

pub invariant_of-result : goal.invariant_of-result
invariant_of-result c = record { laid = question-rule c.requires c.part_of.ensures c.part_of-2.ensures }
