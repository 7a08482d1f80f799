use mathlib.Core.Path.{sym}
use Rattle.task.proofs.Slots.{stood-slot, stood-code}
use Rattle.task.proofs.terms.stands.Goals as goal

pub returns-then-x-lt-SLOT_END : goal.returns-then-x-lt-SLOT_END
returns-then-x-lt-SLOT_END c = sym (stood-slot _ _ c.if-x-lt-SLOT_END.true)

pub returns : goal.returns
returns c = sym (stood-code _ _ c.if-x-lt-SLOT_END.false)
