-- Any two results that meet the promise are the same.
use Rattle.std.proofs.Common.{◌≡◌, ℕ, Bool, true, false, List, sym, refl, ◌∙◌}
use mathlib.Core.Option.{none-ne-some, some-ne-none}
use Rattle.spec.specs.Words.{Rule}
use Rattle.spec.specs.Book.{if_true}
use Rattle.admission.specs.Admission.{HasSummary, AdmissionSays}
use Rattle.admission.proofs.Standing.{standing}

same_test : (v : Rule ℕ) (x y : Bool) → if_true x v ≡ if_true y v → x ≡ y
same_test v true true e = refl
same_test v true false e = absurd (some-ne-none v e)
same_test v false true e = absurd (none-ne-some v e)
same_test v false false e = refl

pub in-once : (book : List ℕ) (i : ℕ) → HasSummary book i → (r r' : Bool) → AdmissionSays book i r → AdmissionSays book i r' → r ≡ r'
in-once book i has r r' a b =
    let u = standing has has.value has.sound in
    same_test u.0.rule r r' (sym (a.is has.value has.sound u.0 u.1) ∙ b.is has.value has.sound u.0 u.1)
