-- The witness's bytes, from places counted from 0.
use Rattle.std.specs.Prelude.{List, [], ◌∷◌, ℕ, zero, suc, ◌+◌, ◌*◌, ◌<◌, ◌≤◌, length, get_or}
use Rattle.codes.specs.Code.{uses_goals}

-- "two bytes: rewriting subgoal and subgoal within that summary", of n places from i on
abbrev pub pair_bytes : List ℕ → List ℕ → List ℕ → ℕ → ℕ → List ℕ
pair_bytes ks own inner i zero = []
pair_bytes ks own inner i (suc n) = (get_or own (get_or ks i 0) 0 + 1) ∷ (get_or inner (get_or ks i 0) 0 + 1) ∷ pair_bytes ks own inner (suc i) n

-- "one byte: question subgoal"
abbrev pub place_bytes : List ℕ → ℕ → ℕ → List ℕ
place_bytes ks i zero = []
place_bytes ks i (suc n) = (get_or ks i 0 + 1) ∷ place_bytes ks (suc i) n

-- there is room, the places are targets, and what is written is a byte
pub record PairsNeeds (out ks own inner : List ℕ) (n : ℕ) : Type 0 where
  pub room : 2 * n ≤ length out
  pub few : n ≤ uses_goals
  pub targets : (i : ℕ) → i < n → (get_or ks i 0 < length own) × (get_or ks i 0 < length inner)
  pub bytes : (k : ℕ) → (get_or own k 0 < 255) × (get_or inner k 0 < 255)

pub record PlacesNeeds (out : List ℕ) (at : ℕ) (ks : List ℕ) (n : ℕ) : Type 0 where
  pub room : at + n ≤ length out
  pub few : n ≤ uses_goals
  pub bytes : (i : ℕ) → i < n → get_or ks i 0 < 255
