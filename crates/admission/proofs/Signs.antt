-- What the test of a signed number's sign says of a lead.
use Rattle.std.proofs.Common.{◌≡◌, Bool, false, ℤ, pos, negsuc, Option, Some, None, MatchOption, refl, ◌∙◌, arith, le-leb}
use lib.Signed.{le_z}
use Rattle.spec.specs.Refresh.{ahead, leads_by}
use Rattle.spec.specs.LeadSays.{lead_says}

leads : (z : ℤ) → le_z (pos 0) z ≡ leads_by (ahead z)
leads (pos n) = le-leb 0 n (omega arith)
leads (negsuc n) = refl

-- Where there is a lead, the answer is that of the test; else it is no.
pub tested : (r : Option ℤ) (b : Bool) (P : ℤ → Type 0) → MatchOption r (b ≡ false) P → ((z : ℤ) → P z → b ≡ le_z (pos 0) z) → b ≡ leads_by (lead_says r)
tested (Some z) b P h f = f z h ∙ leads z
tested None b P h f = h
