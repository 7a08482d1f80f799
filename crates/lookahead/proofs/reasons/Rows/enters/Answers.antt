use mathlib.Core.Path.{refl, sym, ◌∙◌}
use mathlib.Core.Logic.{inl, inr, ⊎_elim}
use native.Mathlib.Omega.{arith}
use Rattle.bits.proofs.Laws.{has-true, exactly-no}
use Rattle.lookahead.proofs.Taken.{has-not}
use Rattle.lookahead.proofs.reasons.Rows.enters.Goals as goal

pub returns-then-holds : goal.returns-then-holds
returns-then-holds c =
    let h = sym c.holds.ensures ∙ c.if-holds.true in
    record { afforded = inl (has-true _ _ h); free = (λ e. has-true _ _ h, λ u. refl); after = rw (c.add-used.ensures, h) refl }

pub returns-then-not-holds : goal.returns-then-not-holds
returns-then-not-holds c =
    let unused = has-not _ _ (sym c.holds.ensures ∙ c.if-holds.false) in
    let shut = has-not _ _ (sym c.holds-2.ensures ∙ c.if-not-holds.true) in
    record { barred = ⊎_elim unused (λ h. shut h.0); allowed = (λ e. absurd (cc), ⊎_elim (λ h. absurd (unused h)) (λ h. absurd (shut h))) }

pub returns-then-self-eq0 : goal.returns-then-self-eq0
returns-then-self-eq0 c =
    let unused = has-not _ _ (sym c.holds.ensures ∙ c.if-holds.false) in
    let may = has-true _ _ (sym c.holds-2.ensures ∙ c.if-not-holds.false) in
    record { barred = ⊎_elim unused (λ h. omega (arith, h.1, c.if-self-eq0.true)); allowed = (λ e. inr may, λ h. refl) }

pub returns : goal.returns
returns c =
    let out = sym c.holds.ensures ∙ c.if-holds.false in
    let may = has-true _ _ (sym c.holds-2.ensures ∙ c.if-not-holds.false) in
    record { afforded = inr (may, omega arith); free = exactly-no (has-not _ _ out); after = rw (c.add-used.ensures, out) refl }
