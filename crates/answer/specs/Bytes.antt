-- Codes as the bytes that are written for them.
use Rattle.std.specs.Prelude.{cond, List, [], ◌∷◌, ◌++◌, map, ℕ, ◌+◌, ◌*◌, ◌%◌, ◌≤◌, ltb, length, get_or, take, drop}
use Rattle.spec.specs.Summaries.{joined}
use Rattle.spec.specs.Numbers.{little}
use Rattle.spec.specs.Table.{answer_room}
use Rattle.spec.specs.BookLayout.{most_arity, question_most}
use Rattle.spec.specs.RuleLayout.{most_head}
use Rattle.codes.specs.Code.{constant_tag, subgoal_size}

-- "one byte 0 (variable) or 1 (constant)"
unfoldable pub tag_of : ℕ → ℕ
tag_of code = cond (ltb code constant_tag) 0 1

-- ".. then four bytes"
abbrev pub code_bytes : ℕ → List ℕ
code_bytes code = tag_of code ∷ little 4 (code % 4294967296)

abbrev pub codes_bytes : List ℕ → List ℕ
codes_bytes codes = joined (map code_bytes codes)

-- "a summary number in each subgoal where a relation number stood": a row's codes, of so many terms
abbrev pub row_bytes : List ℕ → ℕ → List ℕ
row_bytes row wide = get_or row 0 0 % 256 ∷ codes_bytes (take wide (drop 1 row))

-- rows one after the other, nine codes each, by their widths
abbrev pub rows_bytes : List ℕ → List ℕ → List ℕ
rows_bytes codes [] = []
rows_bytes codes (wide ∷ widths) = row_bytes (take subgoal_size codes) wide ++ rows_bytes (drop subgoal_size codes) widths

-- the rows stand in the codes, none of more than eight terms
pub record RowsStand (codes widths : List ℕ) : Type 0 where
  pub stand : subgoal_size * length widths ≤ length codes
  pub narrow : (r : ℕ) → get_or widths r 0 ≤ most_arity

-- the question's head, then the rows
abbrev pub rewriting_bytes : List ℕ → List ℕ → List ℕ → List ℕ
rewriting_bytes body codes widths = get_or body 0 0 ∷ length widths ∷ (take (5 * get_or body 0 0) (drop 2 body) ++ rows_bytes codes widths)

-- there is room for the longest rewriting, and the question's head and the rows stand where they are read
pub record RuleBytesNeeds (out body codes widths : List ℕ) : Type 0 where
  pub room : answer_room ≤ length out
  pub short : get_or body 0 0 ≤ most_head
  pub head : 2 + 5 * get_or body 0 0 ≤ length body
  pub few : length widths ≤ question_most
  pub rows : RowsStand codes widths
