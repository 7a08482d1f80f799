-- The lead, case by case of stamp, need and distance; its lowest and its highest.
use mathlib.Core.Path.{◌≡◌, refl, ap, ◌∙◌, subst, sym}
use mathlib.Core.Logic.{◌↔◌}
use mathlib.Core.Bool.{cond}
use Prim.Native.Nat.{ℕ, suc, ◌-◌, ◌<◌, ◌≤◌}
use native.Mathlib.Omega.{arith}
use native.Mathlib.Decide.{dec_lt, ℕ_discrete}
use lib.IntN.{ℤ, pos, negsuc, ◌-ℤ◌, neg_ℤ, nat_abs}
use lib.Dec.{eqb}
use borrow.Author.Tests.{lt-ltb, le-leb, lt-leb, ne_eqb}
use Rattle.spec.specs.Refresh.{ring, distance, ahead, unfilled, lead_at, lead}

pub distance-within : (need stamp : ℕ) → distance need stamp < ring
distance-within need stamp = omega arith

pub same-lead : {x y : ℤ} → ahead x ≡ ahead y → x ≡ y
same-lead e = cc

-- "from 0 to 2,147,483,647 as leads"
pub lead_near : (d : ℕ) → d ≤ 2147483647 → lead_at d ≡ pos d
lead_near d h = ap (λ t. cond t (pos d) (pos d -ℤ pos ring)) (le-leb d 2147483647 h)

-- "and the rest as negative leads"
pub lead-far : (d : ℕ) → 2147483647 < d → d < ring → lead_at d ≡ negsuc (ring - suc d)
lead-far d h k =
    ap (λ t. cond t (pos d) (pos d -ℤ pos ring)) (lt-leb d 2147483647 h)
    ∙ ap (λ t. cond t (negsuc (ring - suc d)) (pos (d - ring))) (lt-ltb d ring k)

module _ (need : ℕ) where
  -- "0 marks a summary never filled", whatever the need
  pub zero-unfilled : lead need 0 ≡ unfilled
  zero-unfilled = refl

  module _ (stamp : ℕ) where
    lead_is : (stamp ≡ 0 → ⊥) → lead need stamp ≡ ahead (cond (eqb need 0) (pos 0) (lead_at (distance need stamp)))
    lead_is s = ap (λ t. cond t unfilled (ahead (cond (eqb need 0) (pos 0) (lead_at (distance need stamp))))) (ne_eqb stamp 0 s)

    pub lead-on-ring : (need ≡ 0 → ⊥) → (stamp ≡ 0 → ⊥) → lead need stamp ≡ ahead (lead_at (distance need stamp))
    lead-on-ring n s = lead_is s ∙ ap (λ t. ahead (cond t (pos 0) (lead_at (distance need stamp)))) (ne_eqb need 0 n)

    -- Every need and stamp have a lead exactly if the stamp is not 0.
    pub has-lead : ((z : ℤ) × (lead need stamp ≡ ahead z)) ↔ (stamp ≡ 0 → ⊥)
    has-lead = (λ w e. never w.0 (sym (ap (lead need) e) ∙ w.1), λ s. (cond (eqb need 0) (pos 0) (lead_at (distance need stamp)), lead_is s))
      where
        never : (z : ℤ) → unfilled ≡ ahead z → ⊥
        never z e = let absent : ◌≡◌ {A = ℕ} 0 1 = cc in omega arith

-- "A need of 0 admits every stamp but 0, and then each lead prints as 0."
pub lead-under-0 : (stamp : ℕ) → (stamp ≡ 0 → ⊥) → lead 0 stamp ≡ ahead (pos 0)
lead-under-0 stamp s = lead_is 0 stamp s

size-at : (d : ℕ) → d < ring → Dec (d < 2147483648) → nat_abs (lead_at d) ≤ 2147483647
size-at d k (yes h) = subst (λ z. nat_abs z ≤ 2147483647) (sym (lead_near d (omega arith))) (omega arith)
size-at d k (no h) = subst (λ z. nat_abs z ≤ 2147483647) (sym (lead-far d (omega arith) k)) (omega arith)

-- Leads go from −2,147,483,647 to 2,147,483,647, and both ends are reached.
pub lead-within : (need stamp : ℕ) (z : ℤ) → lead need stamp ≡ ahead z → nat_abs z ≤ 2147483647
lead-within need stamp z e = go (ℕ_discrete stamp 0) (ℕ_discrete need 0)
  where
    at : (x : ℤ) → lead need stamp ≡ ahead x → nat_abs x ≤ 2147483647 → nat_abs z ≤ 2147483647
    at x h = subst (λ y. nat_abs y ≤ 2147483647) (same-lead (sym h ∙ e))

    go : Dec (stamp ≡ 0) → Dec (need ≡ 0) → nat_abs z ≤ 2147483647
    go (yes s) c = absurd ((has-lead need stamp).0 (z, e) s)
    go (no s) (yes n) = at (pos 0) (ap (λ x. lead x stamp) n ∙ lead-under-0 stamp s) (omega arith)
    go (no s) (no n) = at (lead_at (distance need stamp)) (lead-on-ring need stamp n s) (size-at (distance need stamp) (distance-within need stamp) (dec_lt (distance need stamp) 2147483648))

pub highest-lead : lead 1 2147483648 ≡ ahead (pos 2147483647)
highest-lead = refl

pub lowest-lead : lead 1 2147483649 ≡ ahead (neg_ℤ (pos 2147483647))
lowest-lead = refl
