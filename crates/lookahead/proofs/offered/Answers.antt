use mathlib.Core.Path.{refl, sym, ◌∙◌}
use mathlib.Core.Bool.{true≢false}
use borrow.Author.Rules.{rules}
use native.Mathlib.Omega.{arith}
use Rattle.lookahead.proofs.Taken.{has-not}
use Rattle.lookahead.proofs.Looking.{agreeable-start, agreeable-more, offered-not, offered-all}
use Rattle.lookahead.proofs.offered.Goals as goal

pub returns-then-not-holds : goal.returns-then-not-holds
returns-then-not-holds c = offered-not _ _ _ _ _ (λ h. absurd (has-not _ _ (sym c.holds.ensures ∙ c.if-not-holds.true) h))

pub returns-then-not-is_related : goal.returns-then-not-is_related
returns-then-not-is_related c = offered-not _ _ _ _ _ (λ h s. let e = s.relation in search rules)

pub loop-a-init : goal.loop-a-init
loop-a-init c = agreeable-start _ _ _ _

pub returns-then-not-may_become : goal.returns-then-not-may_become
returns-then-not-may_become c = offered-not _ _ _ _ _ (λ h s. true≢false (sym ((rw (c.source_term.ensures, c.target_term.ensures) at c.may_become.ensures).1 (s.terms c.loop-a.a (omega (arith, c.width-a-end.ensures.0, c.loop-a-test.true)))) ∙ c.if-not-may_become.true))

pub loop-a-preserved : goal.loop-a-preserved
loop-a-preserved c = agreeable-more _ _ _ _ _ c.loop-a.invariant (rw (c.source_term.ensures, c.target_term.ensures) at (c.may_become.ensures.0 c.if-not-may_become.false))

pub returns : goal.returns
returns c = offered-all _ _ _ _ _ (sym c.holds.ensures ∙ c.if-not-holds.false) (c.if-not-is_related.ensures.0 refl) c.loop-a.a (omega (arith, c.width-a-end.ensures.0, c.loop-a-test.false)) c.loop-a.invariant
