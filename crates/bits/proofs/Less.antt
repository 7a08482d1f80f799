-- Members of a set with one less, and of the set of the numbers below n.
use mathlib.Core.Path.{◌≡◌, refl, ap, sym, ◌∙◌}
use mathlib.Core.Logic.{⊎_elim, ◌↔◌}
use Prim.Native.Nat.{ℕ, zero, suc, ◌+◌, ◌*◌, ◌/◌, ◌%◌, ◌^◌, ◌-◌, ◌<◌, ◌≤◌}
use native.Mathlib.Omega.{arith}
use native.Mathlib.Decide.{dec_lt}
use native.Mathlib.Nat.{two-pow-succ, div-eq_of_lt}
use lib.Bits.{bit_xor, differ, xor_step, xor_shr}
use lib.Pow.{shl_exact, pow_mono, ones_split, high, ones_lt}
use Rattle.bits.specs.Sets.{Has, with, without, first}
use Rattle.bits.proofs.Laws.{bit-has, bit-only, with-new, with-old, with_cases}

xor-bit : (a b x : ℕ) → bit_xor a b / 2 ^ x % 2 ≡ differ (a / 2 ^ x % 2) (b / 2 ^ x % 2)
xor-bit a b x = rw (xor_shr a b x, xor_step (a / 2 ^ x) (b / 2 ^ x)) (omega (arith, bit (a / 2 ^ x % 2) (b / 2 ^ x % 2) (omega arith) (omega arith)))
  where
    bit : (m n : ℕ) → m < 2 → n < 2 → differ m n < 2
    bit zero n h k = k
    bit (suc zero) zero h k = h
    bit (suc zero) (suc n) h k = omega arith
    bit (suc (suc m)) n h k = absurd (omega arith)

-- two different bits; two equal ones
differ-one : (m n : ℕ) → m ≡ 1 → n < 2 → (n ≡ 1 → ⊥) → differ m n ≡ 1
differ-one m n h k f = let e : n ≡ 0 = omega arith in rw (h, e)

differ-none : (m n : ℕ) → m ≡ 1 → n ≡ 1 → differ m n ≡ 1 → ⊥
differ-none m n h k e = omega (arith, rw (h, k) at e)

-- a bit of one that differs from the other's
differ-left : (m n : ℕ) → m < 2 → n < 2 → differ m n ≡ 1 → (n ≡ 1 → ⊥) → m ≡ 1
differ-left m n h k e f = let z : n ≡ 0 = omega arith in omega (arith, differ-zero m, rw z at e)
  where
    differ-zero : (x : ℕ) → differ x 0 ≡ x
    differ-zero zero = refl
    differ-zero (suc x) = refl

module _ (set x y : ℕ) where
  other : Has (without set x) y → y ≡ x → ⊥
  unfolding Has without
  other h e = differ-none (with set x / 2 ^ y % 2) (2 ^ x / 2 ^ y % 2) (rw e (with-new set x)) (rw e (bit-has x)) (sym (xor-bit (with set x) (2 ^ x) y) ∙ h)

  pub without-out : Has (without set x) y → Has set y × (y ≡ x → ⊥)
  unfolding Has without
  without-out h = (
    ⊎_elim (λ o. o) (λ e. absurd (other h e)) (with_cases set x y (differ-left _ _ (omega arith) (omega arith) (sym (xor-bit (with set x) (2 ^ x) y) ∙ h) (λ e. other h (bit-only x y e)))),
    other h,
  )

  pub without_in : Has set y → (y ≡ x → ⊥) → Has (without set x) y
  unfolding Has without
  without_in h f = xor-bit (with set x) (2 ^ x) y ∙ differ-one _ _ (with-old set x y h) (omega arith) (λ e. f (bit-only x y e))

  pub without_is : Has (without set x) y ↔ (Has set y × (y ≡ x → ⊥))
  without_is = (without-out, λ h. without_in h.0 h.1)

-- the numbers below n
pub first-in : (n x : ℕ) → x < n → Has (first n) x
unfolding Has first
first-in n x h =
    let j : suc (n - suc x) + x ≡ n = omega arith in
    let s : 2 ^ (suc (n - suc x) + x) - 1 ≡ (2 ^ suc (n - suc x) - 1) * 2 ^ x + (2 ^ x - 1) = ones_split (suc (n - suc x)) x in
    let q : (2 ^ n - 1) / 2 ^ x ≡ 2 ^ suc (n - suc x) - 1 = ap (λ m. m / 2 ^ x) (rw j at s) ∙ high (2 ^ suc (n - suc x) - 1) x (ones_lt x) in
    rw q (omega (arith, two-pow-succ (n - suc x), ones_lt (n - suc x)))

pub first_out : (n x : ℕ) → Has (first n) x → x < n
unfolding Has first
first_out n x h = go (dec_lt x n)
  where
    go : Dec (x < n) → x < n
    go (yes l) = l
    go (no f) = let p : 2 ^ n ≤ 2 ^ x = pow_mono (omega arith) in let z : (2 ^ n - 1) / 2 ^ x ≡ 0 = div-eq_of_lt (omega (arith, ones_lt n)) in absurd (omega arith)

pub first-is : (n x : ℕ) → Has (first n) x ↔ (x < n)
first-is n x = (first_out n x, first-in n x)

-- what the machine computes
pub bit_is : (x : ℕ) → x < 64 → 1 * 2 ^ x % 2 ^ 64 ≡ 2 ^ x
bit_is x h = let o : 1 * 2 ^ x ≡ 2 ^ x = omega arith in shl_exact {a = 1} 1 x 64 (omega arith) (omega arith) ∙ o
