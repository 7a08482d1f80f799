-- The bindings while they are fixed place by place.
use mathlib.Core.Path.{◌≡◌, refl, ap}
use mathlib.Core.List.{List}
use Prim.Native.Nat.{ℕ, suc, ◌+◌, ◌*◌}
use native.Mathlib.Omega.{arith}
use lib.ListN.{get_or, replicate, set}
use Rattle.summary_rows.specs.FixedPlaces.{fixing}

module _ (source target ks : List ℕ) where
  pub fixing-start : ◌≡◌ {A = List ℕ} (replicate 64 0) (fixing source target ks 0)
  unfolding fixing
  fixing-start = refl

  pub fixing_step : (g : List ℕ) (i x k y : ℕ) → g ≡ fixing source target ks i → x ≡ get_or source (9 * i + 1 + 0) 0 → k ≡ get_or ks i 0 → y ≡ get_or target (9 * k + 1 + 0) 0 → set g x y ≡ fixing source target ks (i + 1)
  unfolding fixing
  fixing_step g i x k y e a b c =
      let one : i + 1 ≡ suc i = omega arith in
      let s : 9 * i + 1 + 0 ≡ 9 * i + 1 = omega arith in
      let t : 9 * get_or ks i 0 + 1 + 0 ≡ 9 * get_or ks i 0 + 1 = omega arith in
      rw (one, a, s, c, b, t) (ap (λ b. set b (get_or source (9 * i + 1) 0) (get_or target (9 * get_or ks i 0 + 1) 0)) e)
