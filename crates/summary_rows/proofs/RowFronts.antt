-- A row's values and its places, and the fronts of rows.
use mathlib.Core.Path.{◌≡◌, sym, ap, ◌∙◌, subst}
use mathlib.Core.List.{List, [], ◌∷◌, ◌++◌}
use Prim.Native.Nat.{ℕ, ◌+◌, ◌<◌, ◌≤◌}
use native.Mathlib.Omega.{arith}
use lib.ListN.{length, get_or, take, drop, length-append, take-append-drop, get_or-append}
use lib.Seq.{take_at, get_or-take, length-take-le}
use Rattle.task.specs.Task.{Task, goals}
use Rattle.summary_rows.specs.RowPlaces.{HeadTask, RowPlaces, RowFront, FrontNeeds, RowGoesOn}
use Rattle.spec.proofs.Lists.Parts.{front-last}
use Rattle.summary_rows.proofs.OneUse.{StandsAt, StandFrom, stand-at, mapped-stand}

module _ (p : Task) (h : ℕ) (ready : HeadTask p h) (js : List ℕ) (y : RowPlaces p h js) where
  abbrev whole : List ℕ
  whole = js ++ y.rest

  pub values : ℕ → ℕ
  values = (mapped-stand p ready.one_use whole y.mapped).0

  pub whole_long : length (js ++ y.rest) ≡ goals p
  whole_long = (mapped-stand p ready.one_use whole y.mapped).1

  pub whole-stands : StandFrom p 0 values (js ++ y.rest)
  unfolding values
  whole-stands = (mapped-stand p ready.one_use whole y.mapped).2

  pub row-stands : (i : ℕ) → i < h → StandsAt p values i (get_or js i 0)
  row-stands i l = rw (get_or-append js y.rest 0 i (omega (arith, y.long))) at (stand-at p values whole whole-stands i (omega (arith, length-append js y.rest, y.long)))

-- any front of a row is one
pub row-front : (p : Task) (h : ℕ) (js : List ℕ) → RowPlaces p h js → (n : ℕ) → RowFront p h (take n js)
row-front p h js y n = record { more = drop n js; row = subst (RowPlaces p h) (sym (take-append-drop n js)) y }

-- the next place of a row that begins so
pub goes_on : (p : Task) (h j : ℕ) (ks js : List ℕ) (from : ℕ) → RowPlaces p h js → j < h → take j js ≡ take j ks → from ≤ get_or js j 0 → RowGoesOn p h j ks from (get_or js j 0)
goes_on p h j ks js from y low e l = record { later = l; front = subst (RowFront p h) (front-last js j (omega (arith, y.long)) ∙ ap (λ m. m ++ (get_or js j 0 ∷ [])) e) (row-front p h js y (j + 1)) }

-- where ks begins with the front of a row
module _ (p : Task) (h : ℕ) (ready : HeadTask p h) (j : ℕ) (ks : List ℕ) (long : length ks ≡ 96) (at : FrontNeeds p h j ks) where
  abbrev pub front-row : List ℕ
  front-row = take j ks ++ at.front.more

  pub front_long : length (take j ks) ≡ j
  front_long = length-take-le j ks (omega (arith, at.few, ready.short))

  pub front-begins : take j front-row ≡ take j ks
  front-begins = take_at (take j ks) at.front.more j front_long

  pub front-stands : (i : ℕ) → i < j → (v : ℕ → ℕ) × StandsAt p v i (get_or ks i 0)
  front-stands i l = (
    values p h ready front-row at.front.row,
    rw (get_or-append (take j ks) at.front.more 0 i (omega (arith, front_long)), get_or-take j ks i 0 l) at (row-stands p h ready front-row at.front.row i (omega (arith, at.few))),
  )
