-- What writing one more pair, or one more place, leaves.
use mathlib.Core.Path.{◌≡◌, refl, sym, ap, ◌∙◌}
use mathlib.Core.List.{List, [], ◌∷◌, ◌++◌}
use Prim.Native.Nat.{ℕ, zero, suc, ◌+◌, ◌*◌}
use native.Mathlib.Omega.{arith}
use native.Mathlib.Numerals.{add-one}
use lib.ListN.{length, get_or, set}
use lib.Seq.{sets}
use Rattle.spec.proofs.Lists.Stores.{sets-next}
use Rattle.witness.specs.WitnessBytes.{pair_bytes, place_bytes}

module _ (ks own inner : List ℕ) where
  pub pairs-long : (i n : ℕ) → length (pair_bytes ks own inner i n) ≡ 2 * n
  pairs-long i zero = refl
  pairs-long i (suc n) = omega (arith, pairs-long (suc i) n)

  pairs-snoc : (i n : ℕ) → pair_bytes ks own inner i (suc n) ≡ pair_bytes ks own inner i n ++ ((get_or own (get_or ks (i + n) 0) 0 + 1) ∷ (get_or inner (get_or ks (i + n) 0) 0 + 1) ∷ [])
  pairs-snoc i zero = let e : i ≡ i + 0 = omega arith in ap (λ j. (get_or own (get_or ks j 0) 0 + 1) ∷ (get_or inner (get_or ks j 0) 0 + 1) ∷ []) e
  pairs-snoc i (suc n) =
      let e : suc i + n ≡ i + suc n = omega arith in
      ap (λ l. (get_or own (get_or ks i 0) 0 + 1) ∷ (get_or inner (get_or ks i 0) 0 + 1) ∷ l)
      (pairs-snoc (suc i) n ∙ ap (λ j. pair_bytes ks own inner (suc i) n ++ ((get_or own (get_or ks j 0) 0 + 1) ∷ (get_or inner (get_or ks j 0) 0 + 1) ∷ [])) e)

  pub pair-stored : (out : List ℕ) (i : ℕ)
      → set (set (sets out 0 (pair_bytes ks own inner 0 i)) (2 * i) (get_or own (get_or ks i 0) 0 + 1)) (2 * i + 1) (get_or inner (get_or ks i 0) 0 + 1) ≡ sets out 0 (pair_bytes ks own inner 0 (i + 1))
  pair-stored out i =
      let z : 0 + i ≡ i = omega arith in
      ap (λ p. set (set (sets out 0 (pair_bytes ks own inner 0 i)) (2 * i) (get_or own (get_or ks i 0) 0 + 1)) p (get_or inner (get_or ks i 0) 0 + 1)) (add-one (2 * i))
      ∙ sets-next out 0 (2 * i) (pair_bytes ks own inner 0 i) ((get_or own (get_or ks i 0) 0 + 1) ∷ (get_or inner (get_or ks i 0) 0 + 1) ∷ []) (omega (arith, pairs-long 0 i))
      ∙ ap (sets out 0) (sym (ap (pair_bytes ks own inner 0) (add-one i) ∙ pairs-snoc 0 i ∙ ap (λ j. pair_bytes ks own inner 0 i ++ ((get_or own (get_or ks j 0) 0 + 1) ∷ (get_or inner (get_or ks j 0) 0 + 1) ∷ [])) z))

module _ (ks : List ℕ) where
  pub places-long : (i n : ℕ) → length (place_bytes ks i n) ≡ n
  places-long i zero = refl
  places-long i (suc n) = ap suc (places-long (suc i) n)

  places-snoc : (i n : ℕ) → place_bytes ks i (suc n) ≡ place_bytes ks i n ++ ((get_or ks (i + n) 0 + 1) ∷ [])
  places-snoc i zero = let e : i ≡ i + 0 = omega arith in ap (λ j. (get_or ks j 0 + 1) ∷ []) e
  places-snoc i (suc n) =
      let e : suc i + n ≡ i + suc n = omega arith in
      ap (λ l. (get_or ks i 0 + 1) ∷ l) (places-snoc (suc i) n ∙ ap (λ j. place_bytes ks (suc i) n ++ ((get_or ks j 0 + 1) ∷ [])) e)

  pub place-stored : (out : List ℕ) (at i : ℕ) → set (sets out at (place_bytes ks 0 i)) (at + i) (get_or ks i 0 + 1) ≡ sets out at (place_bytes ks 0 (i + 1))
  place-stored out at i =
      let z : 0 + i ≡ i = omega arith in
      sets-next out at (at + i) (place_bytes ks 0 i) ((get_or ks i 0 + 1) ∷ []) (omega (arith, places-long 0 i))
      ∙ ap (sets out at) (sym (ap (place_bytes ks 0) (add-one i) ∙ places-snoc 0 i ∙ ap (λ j. place_bytes ks 0 i ++ ((get_or ks j 0 + 1) ∷ [])) z))
