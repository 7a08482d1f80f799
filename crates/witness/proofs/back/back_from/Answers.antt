use mathlib.Core.Path.{sym}
use native.Mathlib.Omega.{arith}
use lib.Seq.{length-take-le}
use Rattle.book_codes.proofs.Lent.{targets-few, target_room}
use Rattle.witness.proofs.BackLaws.{back-found-some, back-placed, back-of}
use Rattle.book_codes.proofs.BackTask.{some-sound, back-lent}
use Rattle.witness.proofs.back.back_from.Goals as goal

pub question_target-n-requires : goal.question_target-n-requires
question_target-n-requires c =
    let w = c.requires in
    (some-sound w.0.from, omega arith)

pub question_bindings-b-requires : goal.question_bindings-b-requires
question_bindings-b-requires c =
    let w = c.requires in
    some-sound w.0.from

pub overflow_mul-target : goal.overflow_mul-target
overflow_mul-target c =
    let question-target = c.question_target-n in
    let w = c.requires in
    let v = w.0.from.is.list.sound in omega (arith, targets-few _ v question-target.ensures)

pub slice_bounds-target-end : goal.slice_bounds-target-end
slice_bounds-target-end c =
    let question-target = c.question_target-n in
    let w = c.requires in
    let v = w.0.from.is.list.sound in target_room _ v question-target.ensures (omega arith)

pub slice_bounds-task-end : goal.slice_bounds-task-end
slice_bounds-task-end c =
    let question-target = c.question_target-n in
    let w = c.requires in
    let v = w.0.from.is.list.sound in sym (length-take-le _ _ (target_room _ v question-target.ensures (omega arith)))

pub slice_bounds-own-end : goal.slice_bounds-own-end
slice_bounds-own-end c =
    let question-target = c.question_target-n in
    let w = c.requires in
    let v = w.0.from.is.list.sound in targets-few _ v question-target.ensures

pub slice_bounds-task-end-2 : goal.slice_bounds-task-end-2
slice_bounds-task-end-2 c =
    let question-target = c.question_target-n in
    let w = c.requires in
    let v = w.0.from.is.list.sound in sym (length-take-le _ _ (targets-few _ v question-target.ensures))

pub invariant_of-task : goal.invariant_of-task
invariant_of-task c =
    let question-bindings = c.question_bindings-b in
    let question-target = c.question_target-n in
    let w = c.requires in
    record { sized = back-lent _ _ w.0.from.is question-target.ensures question-bindings.ensures }

pub unwrap-places-requires : goal.unwrap-places-requires
unwrap-places-requires c =
    let w = c.requires in
    back-found-some _ _ w.0.from.is c.question_target-n.ensures c.question_bindings-b.ensures w.0.serves _ c.first_places.ensures

pub put_places-requires : goal.put_places-requires
put_places-requires c =
    let first-places = c.first_places in
    let question-bindings = c.question_bindings-b in
    let question-target = c.question_target-n in
    let w = c.requires in
    back-placed _ _ w.0.from.is question-target.ensures question-bindings.ensures first-places.ensures c.unwrap-places.ensures w.1

pub returns : goal.returns
returns c =
    let put-places = c.put_places in
    let first-places = c.first_places in
    let question-bindings = c.question_bindings-b in
    let question-target = c.question_target-n in
    record { is = λ b l o serves. back-of b l o question-target.ensures question-bindings.ensures first-places.ensures c.unwrap-places.ensures put-places.ensures }
