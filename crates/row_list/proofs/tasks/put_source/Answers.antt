use mathlib.Core.Path.{sym}
use native.Mathlib.Omega.{arith}
use Rattle.row_list.proofs.SlotSteps.{heads-few}
use Rattle.row_list.proofs.SourceSteps.{slots-long, shown-long, heads-room, source-part, source-room, widths-part, widths-room, source-goals, source-codes}
use Rattle.row_list.proofs.tasks.put_source.Goals as goal

pub slice_bounds-slots-end : goal.slice_bounds-slots-end
slice_bounds-slots-end c =
    let w = c.requires in let n = c.head_count-heads.ensures in let s = c.head_slots-slots.ensures in
    omega (arith, slots-long w.0 n s, heads-few n w.0)

pub slice_bounds-put_alone-end : goal.slice_bounds-put_alone-end
slice_bounds-put_alone-end c =
    let w = c.requires in let n = c.head_count-heads.ensures in let s = c.head_slots-slots.ensures in
    sym (shown-long w.0 n s)

pub put_alone-requires : goal.put_alone-requires
put_alone-requires c =
    let w = c.requires in let n = c.head_count-heads.ensures in let s = c.head_slots-slots.ensures in
    heads-room w.0 n s w.1

pub overflow_mul-heads : goal.overflow_mul-heads
overflow_mul-heads c =
    let w = c.requires in let n = c.head_count-heads.ensures in
    omega (arith, heads-few n w.0)

pub offset_bounds-source-heads : goal.offset_bounds-source-heads
offset_bounds-source-heads c =
    let w = c.requires in let n = c.head_count-heads.ensures in
    omega (arith, heads-few n w.0)

pub slice_bounds-slot_codes-count : goal.slice_bounds-slot_codes-count
slice_bounds-slot_codes-count c =
    let w = c.requires in let n = c.head_count-heads.ensures in let s = c.head_slots-slots.ensures in let e = c.put_alone.ensures in
    source-part w.0 n s _ _ w.1 e

pub slice_bounds-slot_codes-start : goal.slice_bounds-slot_codes-start
slice_bounds-slot_codes-start c =
    let w = c.requires in let n = c.head_count-heads.ensures in let s = c.head_slots-slots.ensures in let e = c.put_alone.ensures in
    source-part w.0 n s _ _ w.1 e

pub slice_bounds-slot_codes-count-2 : goal.slice_bounds-slot_codes-count-2
slice_bounds-slot_codes-count-2 c =
    let w = c.requires in let n = c.head_count-heads.ensures in let s = c.head_slots-slots.ensures in let e = c.put_alone.ensures in
    widths-part w.0 n s _ _ w.1 e w.2

pub slice_bounds-slot_codes-start-2 : goal.slice_bounds-slot_codes-start-2
slice_bounds-slot_codes-start-2 c =
    let w = c.requires in let n = c.head_count-heads.ensures in let s = c.head_slots-slots.ensures in let e = c.put_alone.ensures in
    widths-part w.0 n s _ _ w.1 e w.2

pub slot_codes-requires : goal.slot_codes-requires
slot_codes-requires c =
    let w = c.requires in let n = c.head_count-heads.ensures in let s = c.head_slots-slots.ensures in let e = c.put_alone.ensures in
    (source-room w.0 n s _ _ w.1 e, widths-room w.0 n s _ _ w.1 e w.2)

pub overflow_add-result : goal.overflow_add-result
overflow_add-result c =
    let w = c.requires in let n = c.head_count-heads.ensures in let s = c.head_slots-slots.ensures in let e = c.put_alone.ensures in
    omega (arith, source-goals w.0 n s _ _ w.1 e w.2 c.slot_codes.ensures.0 c.slot_codes.ensures.1)

pub returns : goal.returns
returns c =
    let w = c.requires in let n = c.head_count-heads.ensures in let s = c.head_slots-slots.ensures in let e = c.put_alone.ensures in
    source-codes w.0 n s _ _ w.1 e w.2 c.slot_codes.ensures.0 c.slot_codes.ensures.1
