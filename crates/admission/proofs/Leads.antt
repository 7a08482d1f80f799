-- The lead of a stamp of 0, under a need of 0, and by the two ranges of distances, as the machine's signed numbers give it.
use Rattle.std.proofs.Common.{◌≡◌, ℕ, suc, ◌-◌, ◌<◌, ◌≤◌, pos, negsuc, ◌-ℤ◌, sym, ap, ◌∙◌, arith, w32, SFits, to_z, of_z}
use lib.IntN.{+ℤ_idl}
use mir.ValLaws.{to_z_pos, to_z-of_z}
use borrow.Author.Rules.{sfits_of}
use Rattle.spec.specs.Refresh.{ahead, unfilled, ring, distance, lead_at, lead}
use Rattle.spec.proofs.Refresh.Leads.{lead_near, lead-far, lead-on-ring, lead-under-0}

-- 0 less m, at 32 bits, where m is above 0
minus : (m k : ℕ) → m ≡ suc k → m < 2147483648 → pos 0 -ℤ to_z w32 m ≡ negsuc k
minus m k e h = rw (to_z_pos w32 m h, e) (+ℤ_idl (negsuc k))

-- What a stamp is behind: at most 2,147,483,647, and its negation is the lead.
module _ (d : ℕ) (f : d < ring) (h : 2147483647 < d) where
  behind : pos 0 -ℤ to_z w32 (4294967295 - d) ≡ negsuc (ring - suc d)
  behind = minus (4294967295 - d) (ring - suc d) (omega arith) (omega arith)

  pub behind-fits : SFits w32 (pos 0 -ℤ to_z w32 (4294967295 - d))
  behind-fits = rw behind (sfits_of (omega arith))

module _ (need stamp : ℕ) where
  pub unfilled-lead : stamp ≡ 0 → unfilled ≡ lead need stamp
  unfilled-lead s = sym (ap (lead need) s)

  pub under-0 : need ≡ 0 → (stamp ≡ 0 → ⊥) → ahead (pos 0) ≡ lead need stamp
  under-0 n s = sym (ap (λ m. lead m stamp) n ∙ lead-under-0 stamp s)

module _ (need stamp d : ℕ) (n : need ≡ 0 → ⊥) (s : stamp ≡ 0 → ⊥) (e : d ≡ distance need stamp) where
  lead-at : ahead (lead_at d) ≡ lead need stamp
  lead-at = ap (λ x. ahead (lead_at x)) e ∙ sym (lead-on-ring need stamp n s)

  pub low : d ≤ 2147483647 → ahead (to_z w32 d) ≡ lead need stamp
  low h = ap ahead (to_z_pos w32 d (omega arith) ∙ sym (lead_near d h)) ∙ lead-at

  pub high : d < ring → 2147483647 < d → ahead (to_z w32 (of_z w32 (pos 0 -ℤ to_z w32 (4294967295 - d)))) ≡ lead need stamp
  high f h = ap ahead (to_z-of_z w32 _ (behind-fits d f h) ∙ behind d f h ∙ sym (lead-far d h f)) ∙ lead-at
