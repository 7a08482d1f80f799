-- Places in an array of 96.
use mathlib.Core.Path.{◌≡◌, ap, sym, ◌∙◌}
use mathlib.Core.List.{List, [], ◌∷◌, ◌++◌}
use Prim.Native.Nat.{ℕ, suc, ◌+◌, ◌-◌, ◌≤◌}
use native.Mathlib.Omega.{arith}
use lib.ListN.{length, set, replicate}
use Rattle.placing.specs.FirstPlaces.{laid}
use Rattle.spec.proofs.Lists.Zeros.{zeros-joined, zeros-set}

-- none is placed
pub laid_none : (at : ℕ) → at ≤ 96 → ◌≡◌ {A = List ℕ} (replicate 96 0) (laid at [])
laid_none at h =
    let e : at + (96 - at - 0) ≡ 96 = omega arith in
    sym (ap (λ n. replicate n 0) e) ∙ sym (zeros-joined at (96 - at - 0))

-- one more in front
pub laid-put : (at k : ℕ) (l : List ℕ) → set (laid (suc at) l) at k ≡ laid at (k ∷ l)
laid-put at k l =
    let e : 96 - suc at - length l ≡ 96 - at - suc (length l) = omega arith in
    zeros-set at k (l ++ replicate (96 - suc at - length l) 0) ∙ ap (λ n. replicate at 0 ++ (k ∷ (l ++ replicate n 0))) e
