use Rattle.task.proofs.Slots.{tag-unlike, tag-alike}
use Rattle.task.proofs.terms.alike.Goals as goal

pub returns-then-x-y : goal.returns-then-x-y
returns-then-x-y c =
    tag-unlike _ _ c.if-x-y.true

pub returns : goal.returns
returns c =
    tag-alike _ _ c.if-x-y.false
