-- The number at a place, byte by byte: its value and its bound, for every width.
use mathlib.Core.Path.{◌≡◌, refl}
use mathlib.Core.List.{List, [], ◌∷◌}
use Prim.Native.Nat.{ℕ, zero, suc, ◌+◌, ◌*◌, ◌<◌, ◌^◌}
use native.Mathlib.Nat.{pow-succ'}
use native.Mathlib.Numerals.{towards_suc}
use native.Mathlib.Omega.{arith}
use lib.ListN.{get_or}
use lib.Seq.{drop-nil, take-nil}
use Rattle.spec.specs.Numbers.{Bytes, number_at}

-- No bytes give 0.
pub number-none : (bs : List ℕ) (at : ℕ) → number_at 0 bs at ≡ 0
unfolding number_at
number-none bs at = refl

-- The first byte, and 256 times the number in the bytes after it. Past the end every byte counts as 0.
pub number_step : (many : ℕ) (bs : List ℕ) (at : ℕ) → number_at (suc many) bs at ≡ get_or bs at 0 + 256 * number_at many bs (suc at)
unfolding number_at
number_step many [] at = simp (drop-nil, take-nil)
number_step many (b ∷ bs) zero = refl
number_step many (b ∷ bs) (suc at) = number_step many bs at

-- A number in `many` bytes is below 256 to that power.
pub number-below : (many : ℕ) (bs : List ℕ) (at : ℕ) → Bytes bs → number_at many bs at < 256 ^ many
number-below zero bs at h = rw (number-none bs at) (omega arith)
number-below (suc many) bs at h = rw (number_step many bs at, pow-succ') (let less = number-below many bs (suc at) h in omega (arith, h at))

-- The widths of the book's numbers, written out: two bytes, and four as two times two.
pub number-two : (bs : List ℕ) (at : ℕ) → number_at 2 bs at ≡ get_or bs at 0 + 256 * get_or bs (at + 1) 0
number-two bs at = simp towards_suc (rw (number_step 1, number_step 0, number-none) (omega arith))

pub number-four : (bs : List ℕ) (at : ℕ) → number_at 4 bs at ≡ number_at 2 bs at + 65536 * number_at 2 bs (at + 2)
number-four bs at = simp towards_suc (rw (number_step 3, number_step 2, number_step 1 bs at, number_step 0, number-none) (omega arith))
