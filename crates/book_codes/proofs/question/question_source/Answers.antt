use native.Mathlib.Omega.{arith}
use Rattle.book_codes.proofs.Laid.{question-goals, source_is}
use Rattle.book_codes.proofs.question.question_source.Goals as goal

pub slot_codes-requires : goal.slot_codes-requires
slot_codes-requires c =
    let w = c.requires in
    let q = c.question_body.ensures in
    (omega (arith, w.1, question-goals w.0 q.bytes q.relations), omega (arith, w.2, question-goals w.0 q.bytes q.relations))

pub returns : goal.returns
returns c = let q = c.question_body.ensures in source_is c.requires.0 q.bytes q.relations c.slot_codes.ensures.0 c.slot_codes.ensures.1
