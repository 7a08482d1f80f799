-- Any two results that meet a promise of this crate are equal.
use Rattle.std.proofs.Common.{◌≡◌, ℕ, Bool, [], ℤ, nat_abs, Option, Some, None, sym, refl, ◌∙◌}
use Rattle.spec.specs.Words.{Rule}
use Rattle.spec.specs.Refresh.{lead, admitted}
use Rattle.spec.specs.LeadSays.{lead_says}

same-words : (r s : Option ℤ) → lead_says r ≡ lead_says s → r ≡ s
same-words (Some z) (Some y) e = cc
same-words (Some z) None e = cc
same-words None (Some y) e = cc
same-words None None e = refl

pub lead-of-unique : (need stamp : ℕ) (r s : Option ℤ) → lead_says r ≡ lead need stamp → lead_says s ≡ lead need stamp → r ≡ s
lead-of-unique need stamp r s p q = same-words r s (p ∙ sym q)

pub is-admitted-unique : (need stamp : ℕ) (r s : Bool) → ((rule : Rule ℕ) → r ≡ admitted need stamp rule) → ((rule : Rule ℕ) → s ≡ admitted need stamp rule) → r ≡ s
is-admitted-unique need stamp r s p q = p (record { head = []; body = [] }) ∙ sym (q (record { head = []; body = [] }))

pub size-of-unique : (z : ℤ) (r s : ℕ) → r ≡ nat_abs z → s ≡ nat_abs z → r ≡ s
size-of-unique z r s p q = p ∙ sym q
