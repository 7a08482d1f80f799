-- Any two results that meet a promise are the same, and leave the same codes.
use mathlib.Core.Path.{◌≡◌, refl, sym, ap, ◌∙◌}
use mathlib.Core.List.{List, ◌++◌}
use Prim.Native.Nat.{ℕ, ◌*◌}
use native.Mathlib.Omega.{arith}
use lib.ListN.{drop}
use Rattle.std.specs.Prelude.{Option, Some, None}
use Rattle.spec.specs.Words.{Rule}
use Rattle.spec.specs.Summaries.{Summaries}
use Rattle.spec.specs.Book.{admitted_of}
use Rattle.spec.proofs.Decided.Rows.{all_rows}
use Rattle.codes.specs.Code.{term_code, codes_of}
use Rattle.row_list.specs.Listing.{ListNeeds, ListedSays, ListSays}

module _ (s : Summaries) (q : Rule ℕ) (before after after' : List ℕ) where
  says-once : (r r' : Option ℕ) → ListedSays s q before after r → ListedSays s q before after' r' → (r ≡ r') × (after ≡ after')
  says-once (Some n) (Some m) a b =
      let same : n ≡ m = a.count ∙ sym b.count in
      (ap Some same, a.codes ∙ ap (λ k. codes_of term_code (all_rows s q) ++ drop (9 * k) before) same ∙ sym b.codes)
  says-once (Some n) None a b = absurd (omega (arith, a.count, a.few, b.many))
  says-once None (Some m) a b = absurd (omega (arith, b.count, b.few, a.many))
  says-once None None a b = (refl, a.codes ∙ sym b.codes)

pub listing-once : (book : List ℕ) (area : ℕ) → ListNeeds book area → (before after after' : List ℕ) (r r' : Option ℕ) → ListSays book before after r → ListSays book before after' r' → (r ≡ r') × (after ≡ after')
listing-once book area w before after after' r r' a b =
    says-once (admitted_of w.value) w.value.question before after after' r r' (a.says w.value w.sound) (b.says w.value w.sound)
