use mathlib.Core.Path.{refl}
use native.Mathlib.Omega.{arith}
use Rattle.answer.proofs.PutLaws.{witness-room, tells, question-there, writable, lengths-fit, there-kept, accepted}
use Rattle.answer.proofs.put_all.Goals as goal

pub put_there-there-requires : goal.put_there-there-requires
put_there-there-requires c =
    let w = c.requires in
    (tells w, omega (arith, witness-room w.room))

pub put_back-back-requires : goal.put_back-back-requires
put_back-back-requires c =
    let put-there = c.put_there-there in
    let w = c.requires in
    (tells w, there-kept _ w put-there.ensures)

pub part_of-requires : goal.part_of-requires
part_of-requires c =
    let w = c.requires in
    question-there w

pub put_rule-long-requires : goal.put_rule-long-requires
put_rule-long-requires c =
    let part_of = c.part_of in
    let w = c.requires in
    writable w part_of.ensures refl

pub overflow_add-result : goal.overflow_add-result
overflow_add-result c =
    let put_back = c.put_back-back in
    let put-there = c.put_there-there in
    let w = c.requires in
    let f = lengths-fit w put-there.ensures put_back.ensures in omega arith

pub returns : goal.returns
returns c =
    let put-rule = c.put_rule-long in
    let part_of = c.part_of in
    let put_back = c.put_back-back in
    let put-there = c.put_there-there in
    let w = c.requires in
    accepted _ _ w put-there.ensures put_back.ensures part_of.ensures put-rule.ensures.0 put-rule.ensures.1
