-- Counts: there is one at most, and numbers that are not such change nothing.
use mathlib.Core.Path.{◌≡◌, refl, ap}
use Prim.Native.Nat.{ℕ, zero, suc, ◌<◌, ◌≤◌}
use native.Mathlib.Omega.{arith}
use native.Mathlib.Decide.{ℕ_discrete, dec_lt}
use Rattle.lookahead.specs.Seen.{CountBelow, none, counted, passed}

module _ (P : ℕ → Type 0) where
  pub count-once : (m n k : ℕ) → CountBelow P m n → CountBelow P m k → n ≡ k
  count-once zero zero zero none none = refl
  count-once (suc m) (suc n) (suc k) (counted h c) (counted i d) = ap suc (count-once m n k c d)
  count-once (suc m) (suc n) k (counted h c) (passed i d) = absurd (i h)
  count-once (suc m) n (suc k) (passed h c) (counted i d) = absurd (h i)
  count-once (suc m) n k (passed h c) (passed i d) = count-once m n k c d
  count-once zero zero (suc k) _ x7 = elim x7 [ ]
  count-once zero (suc n) k x5 _ = elim x5 [ ]

  pub count_none : (m : ℕ) → ((j : ℕ) → j < m → P j → ⊥) → CountBelow P m 0
  count_none zero f = none
  count_none (suc m) f = passed (f m (omega arith)) (count_none m (λ j h. f j (omega arith)))

  count-up : (k m n : ℕ) → m ≤ k → ((j : ℕ) → m ≤ j → P j → ⊥) → CountBelow P m n → CountBelow P k n
  count-up zero m n h f c = let e : 0 ≡ m = omega arith in rw e c
  count-up (suc k) m n h f c = elim (ℕ_discrete (suc k) m) [ yes e ↦ rw e c | no d ↦ passed (f k (omega arith)) (count-up k m n (omega arith) f c) ]

  count_down : (k m n : ℕ) → m ≤ k → ((j : ℕ) → m ≤ j → P j → ⊥) → CountBelow P k n → CountBelow P m n
  count_down k m n h f c = elim (ℕ_discrete m k) [ yes e ↦ rw e c | no d ↦ go k n (omega arith) c ]
    where
      go : (k n : ℕ) → m < k → CountBelow P k n → CountBelow P m n
      go (suc k) (suc n) l (counted h c) = absurd (f k (omega arith) h)
      go (suc k) n l (passed h c) = elim (ℕ_discrete m k) [ yes e ↦ rw e c | no d ↦ go k n (omega arith) c ]
      go zero n l _ = elim l [ ]

  -- up to any number that none of them reaches
  pub count-to : (k m n : ℕ) → ((j : ℕ) → k ≤ j → P j → ⊥) → ((j : ℕ) → m ≤ j → P j → ⊥) → CountBelow P k n → CountBelow P m n
  count-to k m n f g c = elim (dec_lt k m) [
    | yes h ↦ count-up m k n (omega arith) f c
    | no h ↦ count_down k m n (omega arith) g c
  ]
