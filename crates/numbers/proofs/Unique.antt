-- Any two results that meet a promise are equal, where the promise names the number: `u16_at` and `u32_at` here, and above them `entries_of`, `stamp_at`, and, by
-- the first part of their promises, `offset_at` and `length_at`.
use mathlib.Core.Path.{◌≡◌, sym, ◌∙◌}
use Prim.Native.Nat.{ℕ}

pub number-unique : (n r s : ℕ) → r ≡ n → s ≡ n → r ≡ s
number-unique n r s p q = p ∙ sym q
