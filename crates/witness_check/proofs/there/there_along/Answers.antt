use mathlib.Core.Path.{sym}
use native.Mathlib.Omega.{arith}
use lib.Seq.{length-take-le}
use Rattle.book_codes.proofs.Lent.{goals-few, source-room, widths-room}
use Rattle.book_codes.proofs.ThereTask.{there-lent}
use Rattle.witness_check.proofs.WayThere.Ways.{stood-sound, there-short, there-unnamed, there-followed}
use Rattle.witness_check.proofs.there.there_along.Goals as goal

pub question_source-n-requires : goal.question_source-n-requires
question_source-n-requires c =
    let w = c.requires in
    (stood-sound w, omega arith, omega arith)

pub overflow_mul-n : goal.overflow_mul-n
overflow_mul-n c =
    let question-source = c.question_source-n in
    let w = c.requires in
    let v = w.is.targets.list.sound in omega (arith, goals-few _ v question-source.ensures)

pub returns-then-witness-n : goal.returns-then-witness-n
returns-then-witness-n c =
    let if1 = c.if-witness-n in
    let question-source = c.question_source-n in
    record { exactly = λ b l o. there-short b l o question-source.ensures if1.true }

pub question_bindings-b-requires : goal.question_bindings-b-requires
question_bindings-b-requires c =
    let w = c.requires in
    stood-sound w

pub pair_places-requires : goal.pair_places-requires
pair_places-requires c =
    let if1 = c.if-witness-n in
    let question-source = c.question_source-n in
    let w = c.requires in
    let v = w.is.targets.list.sound in let n = goals-few _ v question-source.ensures in (omega (arith, w.is.count, w.is.targets.list.few), n, omega (arith, if1.false))

pub overflow_mul-source : goal.overflow_mul-source
overflow_mul-source c =
    let question-source = c.question_source-n in
    let w = c.requires in
    let v = w.is.targets.list.sound in omega (arith, goals-few _ v question-source.ensures)

pub slice_bounds-source-end : goal.slice_bounds-source-end
slice_bounds-source-end c =
    let question-source = c.question_source-n in
    let w = c.requires in
    let v = w.is.targets.list.sound in source-room _ v question-source.ensures (omega arith)

pub slice_bounds-task-end : goal.slice_bounds-task-end
slice_bounds-task-end c =
    let question-source = c.question_source-n in
    let w = c.requires in
    let v = w.is.targets.list.sound in sym (length-take-le _ _ (source-room _ v question-source.ensures (omega arith)))

pub slice_bounds-widths-end : goal.slice_bounds-widths-end
slice_bounds-widths-end c =
    let question-source = c.question_source-n in
    let w = c.requires in
    let v = w.is.targets.list.sound in widths-room _ v question-source.ensures (omega arith)

pub slice_bounds-task-end-2 : goal.slice_bounds-task-end-2
slice_bounds-task-end-2 c =
    let question-source = c.question_source-n in
    let w = c.requires in
    let v = w.is.targets.list.sound in sym (length-take-le _ _ (widths-room _ v question-source.ensures (omega arith)))

pub slice_bounds-lasts-end : goal.slice_bounds-lasts-end
slice_bounds-lasts-end c =
    let question-source = c.question_source-n in
    let w = c.requires in
    let v = w.is.targets.list.sound in goals-few _ v question-source.ensures

pub slice_bounds-task-end-3 : goal.slice_bounds-task-end-3
slice_bounds-task-end-3 c =
    let question-source = c.question_source-n in
    let w = c.requires in
    let v = w.is.targets.list.sound in sym (length-take-le _ _ (goals-few _ v question-source.ensures))

pub invariant_of-task : goal.invariant_of-task
invariant_of-task c =
    let question-bindings = c.question_bindings-b in
    let question-source = c.question_source-n in
    let w = c.requires in
    record { sized = there-lent _ _ w.is.targets question-source.ensures question-bindings.ensures }

pub returns-in_default : goal.returns-in_default
returns-in_default c = record { exactly = λ b l o. there-unnamed b l o c.question_source-n.ensures c.question_bindings-b.ensures (c.in_default.ensures) }

pub returns : goal.returns
returns c =
    let follows = c.follows in
    let question-bindings = c.question_bindings-b in
    let if1 = c.if-witness-n in
    let question-source = c.question_source-n in
    record { exactly = λ b l o. there-followed b l o question-source.ensures question-bindings.ensures follows.ensures (c.in-Some.ensures) if1.false }
