use mathlib.Core.Path.{sym, ◌∙◌}
use Rattle.task.proofs.Slots.{noting-slot, noting-code}
use Rattle.task.proofs.terms.noted.Goals as goal

pub returns-then-x-lt-SLOT_END : goal.returns-then-x-lt-SLOT_END
returns-then-x-lt-SLOT_END c = c.add.ensures ∙ sym (noting-slot _ _ c.if-x-lt-SLOT_END.true)

pub returns : goal.returns
returns c = sym (noting-code _ _ c.if-x-lt-SLOT_END.false)
