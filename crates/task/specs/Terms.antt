-- What a source term stands for under bindings, how its slot is noted, and what is bound where a use starts.
use Rattle.std.specs.Prelude.{◌≡◌, cond, List, ℕ, ◌<◌, ◌≤◌, length, get_or, ltb}
use Rattle.spec.specs.RuleLayout.{variables}
use Rattle.codes.specs.Code.{most_slots}
use Rattle.bits.specs.Sets.{with}

-- what a source term stands for under the bindings g: 0 for a slot that is not bound
unfoldable pub stood : List ℕ → ℕ → ℕ
stood g x = cond (ltb x most_slots) (get_or g x 0) x

-- the set with the term's slot, if it is one
unfoldable pub noting : ℕ → ℕ → ℕ
noting s x = cond (ltb x most_slots) (with s x) s

-- h: the bindings g where a new use starts; last is 0 if none does
pub record Opened (last : ℕ) (g h : List ℕ) : Type 0 where
  pub long : length h ≡ most_slots
  pub same : last ≡ 0 → h ≡ g
  pub low : (x : ℕ) → x < variables → get_or h x 0 ≡ get_or g x 0
  pub high : (last ≡ 0 → ⊥) → (x : ℕ) → variables ≤ x → get_or h x 0 ≡ 0
