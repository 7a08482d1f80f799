-- The codes that are written for a row.
use Rattle.std.specs.Prelude.{List, ◌∷◌, map, ℕ, ◌+◌, ◌*◌, get_or}
use Rattle.spec.specs.RuleLayout.{most_head}
use Rattle.codes.specs.Code.{padded, subgoal_size}

-- the codes of a row: its summary's number, and the codes of the terms that are the targets js
unfoldable pub row_codes : ℕ → List ℕ → List ℕ → List ℕ
row_codes number target js = number ∷ padded most_head (map (λ k. get_or target (subgoal_size * k + 1) 0) js)
