-- What the search itself answers, from some source subgoal on.
use Rattle.std.specs.Prelude.{List, ℕ, Option, Result, Ok, Err}
use Rattle.task.specs.Task.{Task}
use Rattle.task.specs.Completion.{Completion}
use Rattle.lookahead.specs.Taking.{Affords}
use Rattle.lookahead.specs.declared.reasons.Reasons.{Reasons}
use Rattle.lookahead.specs.declared.reasons.Rows.{Rows}
use Rattle.lookahead.specs.Failure.{Failed}
use Rattle.placing.specs.FirstPlaces.{FirstLaid, FirstOf}

-- .. and the rows allow it
pub record Afforded (p : Task) (at : ℕ) (b : List ℕ) (rows : Rows) (l : List ℕ) : Type 0 where
  pub completion : Completion p at b l
  pub affords : Affords p rows.used rows.may rows.left l

-- the first places that the rows allow, or why there are none
abbrev pub SearchSays : Task → ℕ → List ℕ → Rows → Result (List ℕ) Reasons → Type 0
SearchSays p at b rows (Ok ks) = FirstLaid (Afforded p at b rows) at ks
SearchSays p at b rows (Err why) = Failed p at b rows why

-- Without reasons, and with every row in use: the first completion's places, or that there is none.
abbrev pub PlacesFrom : Task → ℕ → List ℕ → Option (List ℕ) → Type 0
PlacesFrom p at b = FirstOf (Completion p at b) at
