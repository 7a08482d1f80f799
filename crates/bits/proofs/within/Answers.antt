use borrow.Author.Tests.{eqb-true, eq-eqb}
use Rattle.bits.proofs.Laws.{within-or, or-within}
use Rattle.bits.proofs.within.Goals as goal

pub returns : goal.returns
returns c = record { exactly = (λ e. within-or c.args.a c.args.b (eqb-true _ _ e), λ h. eq-eqb _ _ (or-within c.args.a c.args.b h)) }
