-- A number as a set: its members are the places of the bits that are 1.
use Rattle.std.specs.Prelude.{◌≡◌, Bool, true, false, ◌↔◌, ℕ, ◌-◌, ◌/◌, ◌%◌, ◌^◌, eqb}
use Rattle.std.specs.Int.Bits.{bit_or, bit_xor}

unfoldable pub Has : ℕ → ℕ → Type 0
Has set x = set / 2 ^ x % 2 ≡ 1

-- the same as a test
unfoldable pub has : ℕ → ℕ → Bool
has set x = eqb (set / 2 ^ x % 2) 1

-- one number more
unfoldable pub with : ℕ → ℕ → ℕ
with set x = bit_or set (2 ^ x)

-- one number less: it is put in and taken out, so that it need not be a member
unfoldable pub without : ℕ → ℕ → ℕ
without set x = bit_xor (with set x) (2 ^ x)

-- the numbers below n
unfoldable pub first : ℕ → ℕ
first n = 2 ^ n - 1

-- the answer is true exactly where every member of the first is one of the second
pub record Within (a b : ℕ) (answer : Bool) : Type 0 where
  pub exactly : (answer ≡ true) ↔ ((x : ℕ) → Has a x → Has b x)

-- the answer is true exactly where some number is a member of both
pub record Meets (a b : ℕ) (answer : Bool) : Type 0 where
  pub exactly : (answer ≡ false) ↔ ((x : ℕ) → Has a x → Has b x → ⊥)

-- the members below 32
unfoldable pub below32 : ℕ → ℕ
below32 set = set % 4294967296
