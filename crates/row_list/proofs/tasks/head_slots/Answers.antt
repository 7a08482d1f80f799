use mathlib.Core.Path.{refl, ◌∙◌}
use lib.ListN.{length-set}
use Rattle.row_list.proofs.SlotSteps.{slots-start, heads-few, slot-room, slots-go, slots_end}
use Rattle.row_list.proofs.tasks.head_slots.Goals as goal

pub loop-i-init : goal.loop-i-init
loop-i-init c = (slots-start _, refl, heads-few c.head_count-i-end.ensures c.requires)

pub u32_at-requires : goal.u32_at-requires
u32_at-requires c = slot-room c.head_count-i-end.ensures c.loop-i-test.true c.requires

pub loop-i-preserved : goal.loop-i-preserved
loop-i-preserved c =
    let l = c.loop-i in
    (slots-go c.head_count-i-end.ensures c.loop-i-test.true l.invariant.0 (c.from.ensures ∙ c.u32_at.ensures), simp length-set l.invariant.1, l.invariant.2)

pub returns : goal.returns
returns c = slots_end c.head_count-i-end.ensures c.loop-i-test.false c.loop-i.invariant.0
