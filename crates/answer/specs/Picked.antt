-- The codes and widths of rows picked from the codes of all rows.
use Rattle.std.specs.Prelude.{◌≡◌, List, map, ℕ, ◌+◌, ◌*◌, ◌<◌, ◌≤◌, eqb, length, get_or, take, drop}
use Rattle.std.specs.List.{position_or_len}
use Rattle.spec.specs.Summaries.{joined}
use Rattle.codes.specs.Code.{subgoal_size}

-- the nine codes of row r
abbrev pub row_codes : List ℕ → ℕ → List ℕ
row_codes codes r = take subgoal_size (drop (subgoal_size * r) codes)

-- how many of a row's eight terms stand before a code of 1
abbrev pub width_in : List ℕ → ℕ
width_in terms = position_or_len (λ code. eqb code 1) terms

-- of each row picked its nine codes, and its width
abbrev pub picked_codes : List ℕ → List ℕ → List ℕ
picked_codes codes rows = joined (map (row_codes codes) rows)

abbrev pub picked_widths : List ℕ → List ℕ → List ℕ
picked_widths codes rows = map (λ r. width_in (drop 1 (row_codes codes r))) rows

-- the rows named stand in the codes, and there is just the room for them
pub record PickNeeds (codes rows : List ℕ) (out widths : ℕ) : Type 0 where
  pub stand : (i : ℕ) → i < length rows → subgoal_size * get_or rows i 0 + subgoal_size ≤ length codes
  pub room : out ≡ subgoal_size * length rows
  pub told : widths ≡ length rows
