use mathlib.Core.Path.{sym}
use native.Mathlib.Omega.{arith}
use lib.Seq.{length-take-le}
use Rattle.book_codes.proofs.Lent.{targets-few, target_room}
use Rattle.book_codes.proofs.BackTask.{some-sound, back-lent, all-few}
use Rattle.witness_check.proofs.WayBack.Ways.{back-short, back-unnamed, back-followed}
use Rattle.witness_check.proofs.back.back_along.Goals as goal

pub returns-then-witness-widths : goal.returns-then-witness-widths
returns-then-witness-widths c =
    let if1 = c.if-witness-widths in
    record { exactly = λ b l o. back-short b l o if1.true }

pub question_target-n-requires : goal.question_target-n-requires
question_target-n-requires c =
    let w = c.requires in
    (some-sound w, omega arith)

pub question_bindings-b-requires : goal.question_bindings-b-requires
question_bindings-b-requires c =
    let w = c.requires in
    some-sound w

pub byte_places-requires : goal.byte_places-requires
byte_places-requires c =
    let question-bindings = c.question_bindings-b in
    let question-target = c.question_target-n in
    let if1 = c.if-witness-widths in
    let w = c.requires in
    omega (arith, if1.false, all-few _ _ w.is question-target.ensures question-bindings.ensures)

pub overflow_mul-target : goal.overflow_mul-target
overflow_mul-target c =
    let question-target = c.question_target-n in
    let w = c.requires in
    let v = w.is.list.sound in omega (arith, targets-few _ v question-target.ensures)

pub slice_bounds-target-end : goal.slice_bounds-target-end
slice_bounds-target-end c =
    let question-target = c.question_target-n in
    let w = c.requires in
    let v = w.is.list.sound in target_room _ v question-target.ensures (omega arith)

pub slice_bounds-task-end : goal.slice_bounds-task-end
slice_bounds-task-end c =
    let question-target = c.question_target-n in
    let w = c.requires in
    let v = w.is.list.sound in sym (length-take-le _ _ (target_room _ v question-target.ensures (omega arith)))

pub slice_bounds-own-end : goal.slice_bounds-own-end
slice_bounds-own-end c =
    let question-target = c.question_target-n in
    let w = c.requires in
    let v = w.is.list.sound in targets-few _ v question-target.ensures

pub slice_bounds-task-end-2 : goal.slice_bounds-task-end-2
slice_bounds-task-end-2 c =
    let question-target = c.question_target-n in
    let w = c.requires in
    let v = w.is.list.sound in sym (length-take-le _ _ (targets-few _ v question-target.ensures))

pub invariant_of-task : goal.invariant_of-task
invariant_of-task c =
    let question-bindings = c.question_bindings-b in
    let question-target = c.question_target-n in
    let w = c.requires in
    record { sized = back-lent _ _ w.is question-target.ensures question-bindings.ensures }

pub returns-in_default : goal.returns-in_default
returns-in_default c = record { exactly = λ b l o. back-unnamed b l o c.question_target-n.ensures c.question_bindings-b.ensures (c.in_default.ensures) }

pub returns : goal.returns
returns c =
    let follows = c.follows in
    let question-bindings = c.question_bindings-b in
    let question-target = c.question_target-n in
    let if1 = c.if-witness-widths in
    record { exactly = λ b l o. back-followed b l o question-target.ensures question-bindings.ensures follows.ensures (c.in-Some.ensures) if1.false }
