use native.Mathlib.Omega.{arith}
use Rattle.book_codes.proofs.Laid.{question-goals, target_is}
use Rattle.book_codes.proofs.question.question_target.Goals as goal

pub term_codes-requires : goal.term_codes-requires
term_codes-requires c =
    let w = c.requires in
    let q = c.question_body.ensures in
    (omega (arith, w.1, question-goals w.0 q.bytes q.relations), omega (arith, question-goals w.0 q.bytes q.relations))

pub returns : goal.returns
returns c = let q = c.question_body.ensures in target_is c.requires.0 q.bytes q.relations c.term_codes.ensures.0
