use mathlib.Core.Path.{sym}
use native.Mathlib.Omega.{arith}
use lib.Seq.{length-take-le}
use Rattle.checker.proofs.Parts.{few-sound, goals-few, too_short, not_there, both-parts}
use Rattle.checker.proofs.confirms.Goals as goal

pub question_goals-middle-requires : goal.question_goals-middle-requires
question_goals-middle-requires c =
    let w = c.requires in
    few-sound w

pub overflow_mul-middle : goal.overflow_mul-middle
overflow_mul-middle c =
    let question-goals = c.question_goals-middle in
    let w = c.requires in
    omega (arith, goals-few question-goals.ensures w)

pub returns-then-witness-middle : goal.returns-then-witness-middle
returns-then-witness-middle c =
    let if1 = c.if-witness-middle in
    let question-goals = c.question_goals-middle in
    too_short question-goals.ensures if1.true

pub slice_bounds-goes_there-end : goal.slice_bounds-goes_there-end
slice_bounds-goes_there-end c =
    let if1 = c.if-witness-middle in
    sym (length-take-le _ _ if1.false)

pub goes_there-requires : goal.goes_there-requires
goes_there-requires c =
    let w = c.requires in
    w

pub returns-then-not-goes_there : goal.returns-then-not-goes_there
returns-then-not-goes_there c =
    let goes-there = c.goes_there in
    let question-goals = c.question_goals-middle in
    not_there question-goals.ensures goes-there.ensures c.if-not-goes_there.true

pub comes_back-requires : goal.comes_back-requires
comes_back-requires c =
    let w = c.requires in
    w

pub returns : goal.returns
returns c =
    let comes_back = c.comes_back in
    let goes-there = c.goes_there in
    let question-goals = c.question_goals-middle in
    both-parts question-goals.ensures goes-there.ensures c.if-not-goes_there.false comes_back.ensures
