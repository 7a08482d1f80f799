-- The places, counted from 0, that bytes name, "All count from 1".
use Rattle.std.specs.Prelude.{◌≡◌, List, ℕ, suc, ◌<◌, length, get_or, Option, Some, None}
use Rattle.codes.specs.Code.{uses_goals}

-- of the first n bytes
pub record BytePlaces (bytes : List ℕ) (n : ℕ) (ks : List ℕ) : Type 0 where
  pub long : length ks ≡ uses_goals
  pub at : (i : ℕ) → i < n → get_or bytes i 0 ≡ suc (get_or ks i 0)

-- of all of them; none where one of the bytes is 0, which names nothing
abbrev pub BytesNamed : List ℕ → Option (List ℕ) → Type 0
BytesNamed bytes (Some ks) = BytePlaces bytes (length bytes) ks
BytesNamed bytes None = (i : ℕ) × (i < length bytes) × (get_or bytes i 0 ≡ 0)
