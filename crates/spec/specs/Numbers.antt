-- Numbers as bytes.
use Rattle.std.specs.Prelude.{List, [], ◌∷◌, ℕ, zero, suc, ◌+◌, ◌*◌, ◌/◌, ◌%◌, ◌<◌, get_or, take, drop}

-- "Numbers are little-endian": the number's bytes, as many as `many`.
abbrev pub little : ℕ → ℕ → List ℕ
little zero n = []
little (suc many) n = n % 256 ∷ little many (n / 256)

-- The number that bytes give, the first of least weight.
abbrev pub value : List ℕ → ℕ
value [] = 0
value (b ∷ bs) = b + 256 * value bs

-- A list of bytes.
abbrev pub Bytes : List ℕ → Type 0
Bytes bs = (i : ℕ) → get_or bs i 0 < 256

-- The number in the `many` bytes from a place on.
unfoldable pub number_at : ℕ → List ℕ → ℕ → ℕ
number_at many bs at = value (take many (drop at bs))
