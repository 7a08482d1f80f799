-- Refresh numbers: the distance from the need to a stamp, the lead, and which summaries are admitted.
use Rattle.std.specs.Prelude.{◌≡◌, Bool, true, false, cond, ℕ, zero, suc, ◌+◌, ◌-◌, ◌%◌, ℤ, pos, negsuc, ◌-ℤ◌, leb, eqb}
use Rattle.spec.specs.Words.{Rule}

-- "the ring 1 to 4,294,967,295"
abbrev pub ring : ℕ
ring = 4294967295

-- "after 4,294,967,295 comes 1"
abbrev pub successor : ℕ → ℕ
successor n = cond (eqb n ring) 1 (suc n)

-- The refresh number that many steps after n.
unfoldable pub number_after : ℕ → ℕ → ℕ
number_after n zero = n
number_after n (suc d) = successor (number_after n d)

-- "Distances are taken on the ring": from need to stamp, both on the ring (admission/proofs/Ring: the stamp is that many steps after the need).
abbrev pub distance : ℕ → ℕ → ℕ
distance need stamp = (stamp + (ring - need)) % ring

-- "from 0 to 2,147,483,647 as leads and the rest as negative leads"
abbrev pub lead_at : ℕ → ℤ
lead_at d = cond (leb d 2147483647) (pos d) (pos d -ℤ pos ring)

-- "0 marks a summary never filled": it has no lead.
pub data Lead : Type 0 where
  ahead : ℤ → Lead
  unfilled : Lead

-- "A stamp of 0 is never admitted and prints 'lead none'. A need of 0 admits every stamp but 0, and then each lead prints as 0."
abbrev pub lead : ℕ → ℕ → Lead
lead need stamp = cond (eqb stamp 0) unfilled (ahead (cond (eqb need 0) (pos 0) (lead_at (distance need stamp))))

-- "A summary is admitted exactly if it has a lead of 0 or more." A summary is a stamp and a rule; by this sentence the rule has no say.
pub record Admitted (need stamp : ℕ) (rule : Rule ℕ) : Type 0 where
  pub by : ℕ
  pub leads : lead need stamp ≡ ahead (pos by)

-- The same as a test; it agrees (proofs/Refresh/Admits).
abbrev pub leads_by : Lead → Bool
leads_by (ahead (pos n)) = true
leads_by (ahead (negsuc n)) = false
leads_by unfilled = false

unfoldable pub admitted : ℕ → ℕ → Rule ℕ → Bool
admitted need stamp rule = leads_by (lead need stamp)
