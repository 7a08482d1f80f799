-- Codes as subgoals of one term each: the places of a head, and the terms that they are placed on.
use Rattle.std.specs.Prelude.{List, [], ◌∷◌, map, ℕ}
use Rattle.spec.specs.Words.{Subgoal, itself}
use Rattle.codes.specs.Code.{codes_of}
use Rattle.summary_rows.specs.RowTask.{head_relation}

abbrev pub alone_of : ℕ → Subgoal ℕ
alone_of w = record { relation = head_relation; terms = w ∷ [] }

unfoldable pub alone_codes : List ℕ → List ℕ
alone_codes ws = codes_of itself (map alone_of ws)
