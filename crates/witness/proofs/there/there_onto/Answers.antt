use mathlib.Core.Path.{sym}
use native.Mathlib.Omega.{arith}
use lib.Seq.{length-take-le}
use Rattle.book_codes.proofs.Lent.{goals-few, source-room, widths-room}
use Rattle.witness.proofs.ThereLaws.{there-found-some, there-paired, there-of}
use Rattle.book_codes.proofs.ThereTask.{some-sound, there-lent}
use Rattle.witness.proofs.there.there_onto.Goals as goal

pub question_source-n-requires : goal.question_source-n-requires
question_source-n-requires c =
    let w = c.requires in
    (some-sound w.0.onto, omega arith, omega arith)

pub question_bindings-b-requires : goal.question_bindings-b-requires
question_bindings-b-requires c =
    let w = c.requires in
    some-sound w.0.onto

pub overflow_mul-source : goal.overflow_mul-source
overflow_mul-source c =
    let question-source = c.question_source-n in
    let w = c.requires in
    let v = w.0.onto.is.targets.list.sound in omega (arith, goals-few _ v question-source.ensures)

pub slice_bounds-source-end : goal.slice_bounds-source-end
slice_bounds-source-end c =
    let question-source = c.question_source-n in
    let w = c.requires in
    let v = w.0.onto.is.targets.list.sound in source-room _ v question-source.ensures (omega arith)

pub slice_bounds-task-end : goal.slice_bounds-task-end
slice_bounds-task-end c =
    let question-source = c.question_source-n in
    let w = c.requires in
    let v = w.0.onto.is.targets.list.sound in sym (length-take-le _ _ (source-room _ v question-source.ensures (omega arith)))

pub slice_bounds-widths-end : goal.slice_bounds-widths-end
slice_bounds-widths-end c =
    let question-source = c.question_source-n in
    let w = c.requires in
    let v = w.0.onto.is.targets.list.sound in widths-room _ v question-source.ensures (omega arith)

pub slice_bounds-task-end-2 : goal.slice_bounds-task-end-2
slice_bounds-task-end-2 c =
    let question-source = c.question_source-n in
    let w = c.requires in
    let v = w.0.onto.is.targets.list.sound in sym (length-take-le _ _ (widths-room _ v question-source.ensures (omega arith)))

pub slice_bounds-lasts-end : goal.slice_bounds-lasts-end
slice_bounds-lasts-end c =
    let question-source = c.question_source-n in
    let w = c.requires in
    let v = w.0.onto.is.targets.list.sound in goals-few _ v question-source.ensures

pub slice_bounds-task-end-3 : goal.slice_bounds-task-end-3
slice_bounds-task-end-3 c =
    let question-source = c.question_source-n in
    let w = c.requires in
    let v = w.0.onto.is.targets.list.sound in sym (length-take-le _ _ (goals-few _ v question-source.ensures))

pub invariant_of-task : goal.invariant_of-task
invariant_of-task c =
    let question-bindings = c.question_bindings-b in
    let question-source = c.question_source-n in
    let w = c.requires in
    record { sized = there-lent _ _ w.0.onto.is.targets question-source.ensures question-bindings.ensures }

pub unwrap-places-requires : goal.unwrap-places-requires
unwrap-places-requires c =
    let w = c.requires in
    there-found-some _ _ w.0.onto.is c.question_source-n.ensures c.question_bindings-b.ensures w.0.serves _ c.first_places.ensures

pub put_pairs-requires : goal.put_pairs-requires
put_pairs-requires c =
    let first-places = c.first_places in
    let question-bindings = c.question_bindings-b in
    let question-source = c.question_source-n in
    let w = c.requires in
    there-paired _ _ w.0.onto.is question-source.ensures question-bindings.ensures first-places.ensures c.unwrap-places.ensures w.1

pub overflow_mul-result : goal.overflow_mul-result
overflow_mul-result c =
    let question-source = c.question_source-n in
    let w = c.requires in
    let v = w.0.onto.is.targets.list.sound in omega (arith, goals-few _ v question-source.ensures)

pub returns : goal.returns
returns c =
    let put-pairs = c.put_pairs in
    let first-places = c.first_places in
    let question-bindings = c.question_bindings-b in
    let question-source = c.question_source-n in
    record { is = λ b l o serves. there-of b l o question-source.ensures question-bindings.ensures first-places.ensures c.unwrap-places.ensures put-pairs.ensures }
