-- Admitted, as a record and as a test, is the same; which stamps are admitted.
use mathlib.Core.Path.{◌≡◌, refl, ap, sym, subst, ◌∙◌}
use mathlib.Core.Logic.{◌↔◌}
use Prim.Native.Nat.{ℕ, suc, ◌-◌, ◌<◌, ◌≤◌}
use native.Mathlib.Omega.{arith}
use native.Mathlib.Decide.{dec_lt}
use lib.IntN.{pos, negsuc}
use lib.Dec.{T}
use Rattle.spec.specs.Words.{Rule}
use Rattle.spec.specs.Refresh.{ring, distance, Lead, ahead, unfilled, lead_at, lead, Admitted, leads_by, admitted}
use Rattle.spec.proofs.Lists.Tests.{decided}
use Rattle.spec.proofs.Refresh.Leads.{distance-within, lead_near, lead-far, lead-on-ring, has-lead, lead-under-0}

module _ (need stamp : ℕ) (rule : Rule ℕ) where
  pub admitted-test : Admitted need stamp rule → T (admitted need stamp rule)
  unfolding admitted
  admitted-test a = subst (λ l. T (leads_by l)) (sym a.leads) tt

  pub test-admitted : T (admitted need stamp rule) → Admitted need stamp rule
  unfolding admitted
  test-admitted h = go (lead need stamp) refl h
    where
      go : (l : Lead) → lead need stamp ≡ l → T (leads_by l) → Admitted need stamp rule
      go (ahead (pos n)) e t = record { by = n; leads = e }
      go (ahead (negsuc n)) e t = absurd t
      go unfilled e t = absurd t

  pub admitted-is : Admitted need stamp rule ↔ T (admitted need stamp rule)
  admitted-is = (admitted-test, test-admitted)

  pub dec_admitted : Dec (Admitted need stamp rule)
  dec_admitted = decided (admitted need stamp rule) test-admitted admitted-test

  -- "A stamp of 0 is never admitted"
  pub zero-never : stamp ≡ 0 → Admitted need stamp rule → ⊥
  zero-never h a = (has-lead need stamp).0 (pos a.by, a.leads) h

module _ (stamp : ℕ) (rule : Rule ℕ) where
  -- "A need of 0 admits every stamp but 0"
  pub need-0-admits : Admitted 0 stamp rule ↔ (stamp ≡ 0 → ⊥)
  need-0-admits = (λ a h. zero-never 0 stamp rule h a, λ h. record { by = 0; leads = lead-under-0 stamp h })

-- On the ring: admitted exactly if the stamp is at most 2,147,483,647 steps after the need.
module _ (need stamp : ℕ) (rule : Rule ℕ) (n : need ≡ 0 → ⊥) (s : stamp ≡ 0 → ⊥) where
  near-admitted : distance need stamp ≤ 2147483647 → Admitted need stamp rule
  near-admitted h = record { by = distance need stamp; leads = lead-on-ring need stamp n s ∙ ap ahead (lead_near (distance need stamp) h) }

  admitted-near : Admitted need stamp rule → distance need stamp ≤ 2147483647
  admitted-near a = go (dec_lt (distance need stamp) 2147483648)
    where
      far : (k : ℕ) → lead_at (distance need stamp) ≡ negsuc k → ⊥
      far k e = subst (λ l. T (leads_by l)) (sym a.leads ∙ lead-on-ring need stamp n s ∙ ap ahead e) tt

      go : Dec (distance need stamp < 2147483648) → distance need stamp ≤ 2147483647
      go (yes h) = omega arith
      go (no h) = absurd (far (ring - suc (distance need stamp)) (lead-far (distance need stamp) (omega arith) (distance-within need stamp)))

  pub admitted-distance : Admitted need stamp rule ↔ (distance need stamp ≤ 2147483647)
  admitted-distance = (admitted-near, near-admitted)
