-- The lead of one number of the ring over another is the negative of the other's over the one.
use Rattle.std.proofs.Common.{◌≡◌, ℕ, suc, ◌+◌, ◌-◌, ◌<◌, ◌≤◌, ℤ, pos, negsuc, neg_ℤ, sym, ap, ◌∙◌, arith}
use native.Mathlib.Decide.{dec_lt, ℕ_discrete}
use Rattle.spec.specs.Refresh.{ring, distance, ahead, lead_at, lead}
use Rattle.spec.proofs.Refresh.Leads.{distance-within, same-lead, lead_near, lead-far, lead-on-ring}

-- Two distances that lead once round the ring together, or are both 0.
module _ (d e : ℕ) (within : d < ring) (none : d ≡ 0 → e ≡ 0) (round : 0 < d → d + e ≡ ring) where
  negative-is : (m : ℕ) → m ≡ suc (ring - suc e) → negsuc (ring - suc e) ≡ neg_ℤ (pos m)
  negative-is m k = sym (ap (λ x. neg_ℤ (pos x)) k)

  turned : Dec (d ≡ 0) → Dec (d < 2147483648) → lead_at e ≡ neg_ℤ (lead_at d)
  turned (yes h) c = ap lead_at (none h) ∙ sym (ap (λ x. neg_ℤ (lead_at x)) h)
  turned (no h) (yes k) =
      let r = round (omega arith) in
      lead-far e (omega arith) (omega arith) ∙ negative-is d (omega arith) ∙ sym (ap neg_ℤ (lead_near d (omega arith)))
  turned (no h) (no k) =
      let r = round (omega arith) in
      lead_near e (omega arith) ∙ ap pos (omega arith) ∙ sym (ap neg_ℤ (lead-far d (omega arith) within))

module _ (need stamp : ℕ) (need-from : 1 ≤ need) (need-to : need ≤ ring) (stamp-from : 1 ≤ stamp) (stamp-to : stamp ≤ ring) where
  none-back : distance need stamp ≡ 0 → distance stamp need ≡ 0
  none-back h = omega arith

  once-round : 0 < distance need stamp → distance need stamp + distance stamp need ≡ ring
  once-round h = omega arith

  leads-turned : lead_at (distance stamp need) ≡ neg_ℤ (lead_at (distance need stamp))
  leads-turned = turned (distance need stamp) (distance stamp need) (distance-within need stamp) none-back once-round (ℕ_discrete (distance need stamp) 0) (dec_lt (distance need stamp) 2147483648)

  pub lead-turned : (z : ℤ) → lead need stamp ≡ ahead z → lead stamp need ≡ ahead (neg_ℤ z)
  lead-turned z e =
      lead-on-ring stamp need (λ k. omega arith) (λ k. omega arith)
      ∙ ap ahead (leads-turned ∙ ap neg_ℤ (same-lead (sym (lead-on-ring need stamp (λ k. omega arith) (λ k. omega arith)) ∙ e)))
