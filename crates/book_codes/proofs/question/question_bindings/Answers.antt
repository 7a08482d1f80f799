use Rattle.book_codes.proofs.Laid.{question-part, laid, bindings-are}
use Rattle.book_codes.proofs.question.question_bindings.Goals as goal

pub part_of-requires : goal.part_of-requires
part_of-requires c =
    let w = c.requires in
    question-part w

pub head_bindings-requires : goal.head_bindings-requires
head_bindings-requires c =
    let part_of = c.part_of in
    let w = c.requires in
    laid w part_of.ensures

pub returns : goal.returns
returns c =
    let head-bindings = c.head_bindings in
    let part_of = c.part_of in
    let w = c.requires in
    bindings-are w part_of.ensures head-bindings.ensures
