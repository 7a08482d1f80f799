-- The eight codes of terms, and the nine of a subgoal.
use mathlib.Core.Path.{◌≡◌, sym, ap, ap₂, ◌∙◌}
use mathlib.Core.List.{List, ◌∷◌, map}
use Prim.Native.Nat.{ℕ, ◌+◌, ◌-◌, ◌<◌, ◌≤◌}
use native.Mathlib.Numerals.{add-one}
use native.Mathlib.Omega.{arith}
use borrow.Rule.Slice.PartMut.{put_mid}
use lib.ListN.{length, get_or, set, length-set}
use lib.Seq.{sets, ext_get_or}
use Rattle.spec.specs.Words.{Term, Subgoal}
use Rattle.codes.specs.Code.{padded}
use Rattle.codes.proofs.Padded.{padded-length, padded-at}
use Rattle.rule_codes.specs.Codes.{tabled}
use Rattle.rule_codes.specs.Steps.{GoalAt, PaddedAt, PaddedCodes, NineAt}
use Rattle.rule_codes.proofs.Stores.{part-stored}

-- Eight codes of the terms there, each as it is.
pub padded-whole : {bytes : List ℕ} {at many : ℕ} {table codes : List ℕ} → length codes ≡ 8 → ((k : ℕ) → k < 8 → PaddedAt bytes at many k table (get_or codes k 0)) → PaddedCodes bytes at many table codes
padded-whole {table = table} {codes} long each = record {
  is = λ ts m.
      let all = map (tabled table) ts in
      ext_get_or 0 codes (padded 8 all) (long ∙ sym (padded-length 8 all)) (λ k h. (each k (omega arith)).is ts m ∙ sym (padded-at 8 all k (omega arith)));
}

-- The nine codes of a subgoal, stored as its relation and as those of its terms.
pub nine-stored : {bytes : List ℕ} {at arity : ℕ} {table codes : List ℕ} (to : ℕ) (before : List ℕ) (relation : ℕ) → to + 9 ≤ length before → relation ≡ get_or bytes at 0
    → PaddedCodes bytes (at + 1) arity table codes → NineAt bytes at arity to table before (put_mid (to + 1) (to + 9 - (to + 1)) (set before to relation) codes)
nine-stored {bytes} {at} {arity} {table} {codes} to before relation room e p = record { is = is }
  where
    is : (g : Subgoal (Term ℕ)) → GoalAt bytes at arity g → put_mid (to + 1) (to + 9 - (to + 1)) (set before to relation) codes ≡ sets before to (g.relation ∷ padded 8 (map (tabled table) g.terms))
    is g w =
        let same = p.is g.terms w.terms in
        let long : length codes ≡ to + 9 - (to + 1) = omega (arith, ap length same, padded-length 8 (map (tabled table) g.terms)) in
        part-stored (set before to relation) (to + 1) (to + 9 - (to + 1)) codes (omega (arith, length-set before to relation)) long
        ∙ ap₂ (λ r ws. sets (set before to r) (to + 1) ws) (e ∙ w.relation) same
        ∙ ap (λ j. sets (set before to g.relation) j (padded 8 (map (tabled table) g.terms))) (add-one to)
