-- Members in common: where sets meet there is one.
use mathlib.Core.Path.{◌≡◌}
use mathlib.Core.Bool.{true}
use Prim.Native.Nat.{ℕ, zero, suc, ◌/◌, ◌%◌, ◌^◌, ◌<◌, min}
use native.Mathlib.Omega.{arith}
use native.Mathlib.Decide.{ℕ_discrete}
use native.Mathlib.Nat.{two-pow-succ}
use lib.Bits.{bit_and, and_step, and_shr}
use Rattle.bits.specs.Sets.{Has, Meets}
use Rattle.bits.proofs.Laws.{half-has, below, apart-and}

-- a number that is not 0 has a member
member_below : (k a : ℕ) → a < 2 ^ k → (a ≡ 0 → ⊥) → (x : ℕ) × Has a x
unfolding Has
member_below zero a l f = absurd (omega arith)
member_below (suc k) a l f = go (ℕ_discrete (a % 2) 1) (λ n. member_below k (a / 2) (omega (arith, two-pow-succ k)) (λ z. f (omega arith)))
  where
    go : Dec (a % 2 ≡ 1) → ((a % 2 ≡ 1 → ⊥) → (x : ℕ) × Has (a / 2) x) → (x : ℕ) × Has a x
    go (yes e) half = (0, omega arith)
    go (no n) half = let w = half n in (suc w.0, (half-has a w.0).0 w.1)

and-bit : (a b x : ℕ) → bit_and a b / 2 ^ x % 2 ≡ min (a / 2 ^ x % 2) (b / 2 ^ x % 2)
and-bit a b x = rw (and_shr a b x, and_step (a / 2 ^ x) (b / 2 ^ x)) (omega arith)

and_both : (a b x : ℕ) → Has (bit_and a b) x → Has a x × Has b x
unfolding Has
and_both a b x h = let e = and-bit a b x in (omega arith, omega arith)

pub meets-some : (a b : ℕ) → Meets a b true → (x : ℕ) × Has a x × Has b x
meets-some a b m =
    let w = member_below (bit_and a b) (bit_and a b) (below (bit_and a b)) (λ z. let e : ◌≡◌ {A = ℕ} 0 1 = cc (m.exactly.1 (apart-and a b z)) in omega arith) in
    let o = and_both a b w.0 w.1 in
    (w.0, o.0, o.1)
