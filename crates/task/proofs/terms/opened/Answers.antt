use native.Mathlib.Omega.{arith}
use Rattle.task.proofs.Clear.{clear-own}
use Rattle.task.proofs.terms.opened.Goals as goal

pub returns-then-last-ne0 : goal.returns-then-last-ne0
returns-then-last-ne0 c = clear-own _ c.args.g.now _ (omega arith) c.if-last-ne0.true (c.fill.ensures.after (λ y e. e))
