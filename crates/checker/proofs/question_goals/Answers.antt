use Rattle.book_codes.proofs.Laid.{question-part, laid}
use Rattle.checker.proofs.Parts.{goals-are}
use Rattle.checker.proofs.question_goals.Goals as goal

pub part_of-requires : goal.part_of-requires
part_of-requires c =
    let w = c.requires in
    question-part w

pub goal_count-requires : goal.goal_count-requires
goal_count-requires c =
    let part_of = c.part_of in
    let w = c.requires in
    laid w part_of.ensures

pub returns : goal.returns
returns c =
    let goal-count = c.goal_count in
    let part_of = c.part_of in
    goals-are part_of.ensures goal-count.ensures
