-- Members of the empty set, of a union, of a set with one more; when one set lies within another.
use mathlib.Core.Path.{◌≡◌, refl, ap, sym, ◌∙◌, subst}
use mathlib.Core.Logic.{◌⊎◌, inl, inr, ⊎_elim, ◌↔◌}
use mathlib.Core.Bool.{Bool, true, false, false≢true}
use Prim.Native.Nat.{ℕ, zero, suc, ◌+◌, ◌*◌, ◌/◌, ◌%◌, ◌^◌, ◌-◌, ◌<◌, ◌≤◌, max, min}
use native.Mathlib.Omega.{arith}
use native.Mathlib.Decide.{dec_lt}
use native.Mathlib.Nat.{two-pow-succ, div-eq_of_lt}
use lib.Bits.{bit_or, bit_and, or_step, or_shr, or_comm, or_zero_l, and_step, and_shr}
use lib.Pow.{shl-shr, shl_exact, shr-shr, shr_le, pow-add, pow-lt, field, mod-mod-pow, ones_split, high, ones_lt}
use borrow.Author.Tests.{eqb-true, eq-eqb}
use Rattle.bits.specs.Sets.{Has, has, with, below32, Within, Meets}

pub has-true : (set x : ℕ) → has set x ≡ true → Has set x
unfolding has Has
has-true set x e = eqb-true _ _ e

pub true-has : (set x : ℕ) → Has set x → has set x ≡ true
unfolding has Has
true-has set x h = eq-eqb _ _ h

pub has-none : (x : ℕ) → Has 0 x → ⊥
unfolding Has
has-none x h = omega (arith, shr_le 0 x)

-- the greater of two bits is 1 where one of them is
max_cases : (a b : ℕ) → a < 2 → b < 2 → max a b ≡ 1 → (a ≡ 1) ⊎ (b ≡ 1)
max_cases zero b h k e = inr (omega arith)
max_cases (suc a) b h k e = inl (omega arith)

or-bit : (a b x : ℕ) → bit_or a b / 2 ^ x % 2 ≡ max (a / 2 ^ x % 2) (b / 2 ^ x % 2)
or-bit a b x = rw (or_shr a b x, or_step (a / 2 ^ x) (b / 2 ^ x)) (omega arith)

pub or_left : (a b x : ℕ) → Has a x → Has (bit_or a b) x
unfolding Has
or_left a b x h = omega (arith, or-bit a b x)

pub or_right : (a b x : ℕ) → Has b x → Has (bit_or a b) x
or_right a b x h = rw (or_comm a b) (or_left b a x h)

pub or-either : (a b x : ℕ) → Has a x ⊎ Has b x → Has (bit_or a b) x
or-either a b x = ⊎_elim (or_left a b x) (or_right a b x)

pub or_cases : (a b x : ℕ) → Has (bit_or a b) x → Has a x ⊎ Has b x
unfolding Has
or_cases a b x h = max_cases (a / 2 ^ x % 2) (b / 2 ^ x % 2) (omega arith) (omega arith) (sym (or-bit a b x) ∙ h)

-- a single bit
pub bit-has : (x : ℕ) → Has (2 ^ x) x
unfolding Has
bit-has x = let e : 1 * 2 ^ x / 2 ^ x ≡ 1 = shl-shr 1 x in let o : 1 * 2 ^ x ≡ 2 ^ x = omega arith in rw (rw o at e)

pub bit-only : (x y : ℕ) → Has (2 ^ x) y → y ≡ x
unfolding Has
bit-only x y h = by (dec_lt x y) (dec_lt y x)
  where
    by : Dec (x < y) → Dec (y < x) → y ≡ x
    by (yes l) d = let z : 2 ^ x / 2 ^ y ≡ 0 = div-eq_of_lt (pow-lt l) in absurd (omega arith)
    by (no f) (yes l) =
        let k : ℕ = x - suc y in
        let e : suc k + y ≡ x = omega arith in
        let p : 2 ^ x ≡ 2 ^ suc k * 2 ^ y = ap (λ n. 2 ^ n) (sym e) ∙ pow-add 2 (suc k) y in
        let q : 2 ^ x / 2 ^ y ≡ 2 ^ suc k = ap (λ n. n / 2 ^ y) p ∙ shl-shr (2 ^ suc k) y in
        absurd (omega (arith, two-pow-succ k))
    by (no f) (no g) = omega arith

-- one number more
pub with-new : (set x : ℕ) → Has (with set x) x
unfolding with
with-new set x = or_right set (2 ^ x) x (bit-has x)

pub with-old : (set x y : ℕ) → Has set y → Has (with set x) y
unfolding with
with-old set x y h = or_left set (2 ^ x) y h

pub with_cases : (set x y : ℕ) → Has (with set x) y → Has set y ⊎ (y ≡ x)
unfolding with
with_cases set x y h = go (or_cases set (2 ^ x) y h)
  where
    go : Has set y ⊎ Has (2 ^ x) y → Has set y ⊎ (y ≡ x)
    go (inl a) = inl a
    go (inr b) = inr (bit-only x y b)

-- what the machine computes
pub with-is : (set x : ℕ) → x < 64 → bit_or set (1 * 2 ^ x % 2 ^ 64) ≡ with set x
unfolding with
with-is set x h = let o : 1 * 2 ^ x ≡ 2 ^ x = omega arith in ap (bit_or set) (shl_exact {a = 1} 1 x 64 (omega arith) (omega arith) ∙ o)

-- a set within another adds nothing to it, and the other way round
pub within-or : (a b : ℕ) → bit_or a b ≡ b → (x : ℕ) → Has a x → Has b x
within-or a b e x h = subst (λ n. Has n x) e (or_left a b x h)

pub half-has : (a x : ℕ) → Has (a / 2) x ↔ Has a (suc x)
unfolding Has
half-has a x = let e : a / 2 / 2 ^ x ≡ a / 2 ^ suc x = shr-shr a 1 x ∙ ap (λ n. a / 2 ^ n) (omega arith) in (λ h. ap (λ n. n % 2) (sym e) ∙ h, λ h. ap (λ n. n % 2) e ∙ h)

or-within-below : (k a b : ℕ) → a < 2 ^ k → ((x : ℕ) → Has a x → Has b x) → bit_or a b ≡ b
unfolding Has
or-within-below zero a b l h = let z : a ≡ 0 = omega arith in rw z (or_zero_l b)
or-within-below (suc k) a b l h =
    let p = two-pow-succ k in
    let ih : bit_or (a / 2) (b / 2) ≡ b / 2 = or-within-below k (a / 2) (b / 2) (omega arith) (λ x q. (half-has b x).1 (h (suc x) ((half-has a x).0 q))) in
    rw (or_step a b, ih) (omega (arith, low))
  where
    low : a % 2 ≤ b % 2
    low = bit (a % 2) refl (h 0)
      where
        bit : (n : ℕ) → a % 2 ≡ n → (Has a 0 → Has b 0) → n ≤ b % 2
        bit zero e g = omega arith
        bit (suc n) e g = let w : b / 1 % 2 ≡ 1 = g (omega arith) in omega arith

-- every number has fewer digits than itself
pub below : (n : ℕ) → n < 2 ^ n
below zero = omega arith
below (suc n) = let p = two-pow-succ n in omega (arith, below n)

pub or-within : (a b : ℕ) → ((x : ℕ) → Has a x → Has b x) → bit_or a b ≡ b
or-within a b h = or-within-below a a b (below a) h

-- sets apart have an empty meet, and the other way round
pub apart-and : (a b : ℕ) → bit_and a b ≡ 0 → (x : ℕ) → Has a x → Has b x → ⊥
unfolding Has
apart-and a b z x h k =
    let e : 0 / 2 ^ x ≡ bit_and (a / 2 ^ x / 2) (b / 2 ^ x / 2) * 2 + 1 = ap (λ n. n / 2 ^ x) (sym z) ∙ and_shr a b x ∙ and_step (a / 2 ^ x) (b / 2 ^ x) ∙ rw (h, k) in
    omega (arith, shr_le 0 x)

and-apart-below : (k a b : ℕ) → a < 2 ^ k → ((x : ℕ) → Has a x → Has b x → ⊥) → bit_and a b ≡ 0
unfolding Has
and-apart-below zero a b l h = let z : a ≡ 0 = omega arith in rw z
and-apart-below (suc k) a b l h =
    let p = two-pow-succ k in
    let ih : bit_and (a / 2) (b / 2) ≡ 0 = and-apart-below k (a / 2) (b / 2) (omega arith) (λ x q r. h (suc x) ((half-has a x).0 q) ((half-has b x).0 r)) in
    rw (and_step a b, ih) (omega (arith, bit (a % 2) (b % 2) (omega arith) (omega arith) (λ e f. h 0 (omega arith) (omega arith))))
  where
    bit : (m n : ℕ) → m < 2 → n < 2 → (m ≡ 1 → n ≡ 1 → ⊥) → min m n ≡ 0
    bit zero n h k f = omega arith
    bit (suc m) zero h k f = omega arith
    bit (suc m) (suc n) h k f = absurd (f (omega arith) (omega arith))

pub and-apart : (a b : ℕ) → ((x : ℕ) → Has a x → Has b x → ⊥) → bit_and a b ≡ 0
and-apart a b h = and-apart-below a a b (below a) h

-- the members below 32
pub low-has : (set x : ℕ) → x < 32 → Has set x → Has (below32 set) x
unfolding Has below32
low-has set x h e =
    let j : (32 - x) + x ≡ 32 = omega arith in
    let f : set % 2 ^ ((32 - x) + x) / 2 ^ x ≡ set / 2 ^ x % 2 ^ (32 - x) = field set (32 - x) x in
    let i : (31 - x) + 1 ≡ 32 - x = omega arith in
    let m : set / 2 ^ x % 2 ^ ((31 - x) + 1) % 2 ^ 1 ≡ set / 2 ^ x % 2 ^ 1 = mod-mod-pow (set / 2 ^ x) (31 - x) 1 in
    ap (λ n. n % 2) (rw j at f) ∙ rw i at m ∙ e

-- the set of all
pub all-has : (x : ℕ) → x < 64 → Has 18446744073709551615 x
unfolding Has
all-has x h =
    let j : suc (63 - x) + x ≡ 64 = omega arith in
    let s : 2 ^ (suc (63 - x) + x) - 1 ≡ (2 ^ suc (63 - x) - 1) * 2 ^ x + (2 ^ x - 1) = ones_split (suc (63 - x)) x in
    let q : 18446744073709551615 / 2 ^ x ≡ 2 ^ suc (63 - x) - 1 = ap (λ n. n / 2 ^ x) (rw j at s) ∙ high (2 ^ suc (63 - x) - 1) x (ones_lt x) in
    rw q (omega (arith, two-pow-succ (63 - x), ones_lt (63 - x)))

-- two sets with the same members are the same
pub same-members : (a b : ℕ) → ((x : ℕ) → Has a x ↔ Has b x) → a ≡ b
same-members a b h = sym (or-within b a (λ x. (h x).1)) ∙ or_comm b a ∙ or-within a b (λ x. (h x).0)

-- an answer that is true exactly if something holds, where it does and where it does not
pub exactly-yes : {P : Type 0} → P → (true ≡ true) ↔ P
exactly-yes p = (λ e. p, λ q. refl)

pub exactly-no : {P : Type 0} → (P → ⊥) → (false ≡ true) ↔ P
exactly-no f = (λ e. absurd (false≢true e), λ p. absurd (f p))

-- two answers that are true exactly if the same thing holds are the same
pub exactly-once : {P : Type 0} (r s : Bool) → (r ≡ true) ↔ P → (s ≡ true) ↔ P → r ≡ s
exactly-once true true f g = refl
exactly-once true false f g = sym (g.1 (f.0 refl))
exactly-once false true f g = f.1 (g.0 refl)
exactly-once false false f g = refl

-- two answers on whether a set lies within another are the same
pub within-once : (a b : ℕ) (r s : Bool) → Within a b r → Within a b s → r ≡ s
within-once a b r s p q = exactly-once r s p.exactly q.exactly

-- two answers on whether sets have a member in common are the same
pub meets-once : (a b : ℕ) (r s : Bool) → Meets a b r → Meets a b s → r ≡ s
meets-once a b true true p q = refl
meets-once a b true false p q = p.exactly.1 (q.exactly.0 refl)
meets-once a b false true p q = sym (q.exactly.1 (p.exactly.0 refl))
meets-once a b false false p q = refl
