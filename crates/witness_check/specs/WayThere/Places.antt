-- The places, counted from 0, that pairs of bytes name, "All count from 1".
use Rattle.std.specs.Prelude.{◌≡◌, List, ℕ, suc, ◌+◌, ◌*◌, ◌<◌, length, get_or, Option, Some, None}
use Rattle.codes.specs.Code.{uses_goals}

-- Use u, of k uses, begins at the u-th of the beginnings: there the place in it is counted from.
pub record InUse (starts : List ℕ) (k u w place : ℕ) : Type 0 where
  pub less : u < k
  pub is : place ≡ get_or starts u 0 + w
  pub within : place < get_or starts (suc u) 0

module _ (starts : List ℕ) (k row inner : ℕ) where
  -- "two bytes: rewriting subgoal and subgoal within that summary"
  abbrev pub Names : ℕ → Type 0
  Names place = (u w : ℕ) × (row ≡ suc u) × (inner ≡ suc w) × InUse starts k u w place

  -- the place that they name, or that they name none
  abbrev pub PlaceOf : Option ℕ → Type 0
  PlaceOf (Some place) = Names place
  PlaceOf None = (place : ℕ) → Names place → ⊥

module _ (bytes starts : List ℕ) (k : ℕ) where
  -- what the pair at i names
  abbrev pub PairNames : ℕ → ℕ → Type 0
  PairNames i = Names starts k (get_or bytes (2 * i) 0) (get_or bytes (2 * i + 1) 0)

  -- of the first n pairs
  pub record PairPlaces (n : ℕ) (ks : List ℕ) : Type 0 where
    pub long : length ks ≡ uses_goals
    pub at : (i : ℕ) → i < n → PairNames i (get_or ks i 0)

  -- of n pairs; none where one of them names nothing
  abbrev pub PairsNamed : ℕ → Option (List ℕ) → Type 0
  PairsNamed n (Some ks) = PairPlaces n ks
  PairsNamed n None = (i : ℕ) × (i < n) × ((place : ℕ) → PairNames i place → ⊥)
