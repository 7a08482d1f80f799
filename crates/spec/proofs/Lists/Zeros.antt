-- Lists of zeros: what stands in them, in their fronts and in what is left of them.
use mathlib.Core.Path.{◌≡◌, refl, ap}
use mathlib.Core.List.{List, ◌∷◌, [], ◌++◌}
use Prim.Native.Nat.{ℕ, ◌<◌, zero, suc, ◌≤◌, ◌+◌}
use native.Mathlib.Omega.{arith}
use native.Mathlib.Decide.{dec_lt}
use lib.ListN.{set, get_or, replicate, length-replicate, get_or-replicate, get_or-eq_default, take, drop, length}
use lib.Seq.{length-take-le}

pub zero-at : (n i : ℕ) → ◌≡◌ {A = ℕ} (get_or (replicate n 0) i 0) 0
zero-at n i = go (dec_lt i n)
  where
    go : Dec (i < n) → ◌≡◌ {A = ℕ} (get_or (replicate n 0) i 0) 0
    go (yes h) = get_or-replicate {A = ℕ} n i 0 0 h
    go (no h) = get_or-eq_default {A = ℕ} (replicate n 0) 0 {n = i} (omega (arith, length-replicate {A = ℕ} n 0))

-- the front of an empty area has zeros alone
pub zeros-at : (n m k : ℕ) → get_or {A = ℕ} (take n (replicate m 0)) k 0 ≡ 0
zeros-at zero m k = refl
zeros-at (suc n) zero k = refl
zeros-at (suc n) (suc m) zero = refl
zeros-at (suc n) (suc m) (suc k) = zeros-at n m k

pub zeros-take : (n m : ℕ) → n ≤ m → ◌≡◌ {A = List ℕ} (take n (replicate m 0)) (replicate n 0)
zeros-take zero m h = refl
zeros-take (suc n) zero h = absurd (omega arith)
zeros-take (suc n) (suc m) h = ap (λ l. 0 ∷ l) (zeros-take n m (omega arith))

pub zero-after : (m i j : ℕ) → get_or {A = ℕ} (drop m (replicate i 0)) j 0 ≡ 0
zero-after zero zero j = refl
zero-after zero (suc i) zero = refl
zero-after zero (suc i) (suc j) = zero-after zero i j
zero-after (suc m) zero j = refl
zero-after (suc m) (suc i) j = zero-after m i j

pub drop-next : (m : ℕ) (l : List ℕ) (k : ℕ) → drop k l ≡ replicate (suc m) 0 → drop (suc k) l ≡ replicate m 0
drop-next m [] zero e = cc
drop-next m [] (suc k) e = cc
drop-next m (x ∷ l) zero e = cc
drop-next m (x ∷ l) (suc k) e = drop-next m l k e

pub zeros-joined : (m n : ℕ) → ◌≡◌ {A = List ℕ} (replicate m 0 ++ replicate n 0) (replicate (m + n) 0)
zeros-joined zero n = let e : 0 + n ≡ n = omega arith in rw e
zeros-joined (suc m) n = let e : suc m + n ≡ suc (m + n) = omega arith in rw e (ap (λ l. 0 ∷ l) (zeros-joined m n))

pub zeros-long : (n : ℕ) → n ≤ 8 → length (take n (replicate {A = ℕ} 8 0)) ≡ n
zeros-long n h = length-take-le n (replicate 8 0) h

pub zeros-set : (at k : ℕ) (t : List ℕ) → set (replicate (suc at) 0 ++ t) at k ≡ replicate at 0 ++ (k ∷ t)
zeros-set zero k t = refl
zeros-set (suc at) k t = ap (λ l. 0 ∷ l) (zeros-set at k t)
