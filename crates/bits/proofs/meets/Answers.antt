use mathlib.Core.Path.{ap}
use mathlib.Core.Bool.{not}
use borrow.Author.Tests.{not-false, eqb-true, eq-eqb}
use Rattle.bits.proofs.Laws.{apart-and, and-apart}
use Rattle.bits.proofs.meets.Goals as goal

pub returns : goal.returns
returns c = record { exactly = (λ e. apart-and c.args.a c.args.b (eqb-true _ _ (not-false _ e)), λ h. ap not (eq-eqb _ _ (and-apart c.args.a c.args.b h))) }
