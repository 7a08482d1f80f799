-- The steps of the search for the first row and for the next, as its code takes them.
use mathlib.Core.Path.{◌≡◌, sym, ap, ◌∙◌, subst}
use mathlib.Core.List.{List}
use Prim.Native.Nat.{ℕ, suc, ◌+◌, ◌<◌, ◌≤◌}
use native.Mathlib.Omega.{arith}
use lib.ListN.{length, get_or, take, drop}
use lib.Seq.{take-take, drop-set-lt}
use Rattle.task.specs.Task.{Task}
use Rattle.summary_rows.specs.RowPlaces.{HeadTask, RowPlaces, LaterPlaces, PlacesWith, FirstRow, RowFront, FrontNeeds, PlacePut}
use Rattle.spec.proofs.Lists.Parts.{front-put}
use Rattle.summary_rows.proofs.RowFronts.{row-front}
use Rattle.summary_rows.proofs.NextLaw.{Gone, next-found}

module _ (p : Task) (h : ℕ) (ready : HeadTask p h) (ks : List ℕ) (row : RowPlaces p h (take h ks)) where
  -- its first places begin a row
  pub row_at : (j : ℕ) → j ≤ h → FrontNeeds p h j ks
  row_at j l = record { few = l; front = subst (RowFront p h) (take-take j h ks l) (row-front p h (take h ks) row j) }

  -- place j goes further, the later ones being gone
  module _ (long : length ks ≡ 96) (j : ℕ) (low : j < h) (gone : Gone p h ks (suc j)) (front : List ℕ) (found : PlacePut p h j ks (get_or ks j 0 + 1) front) where
    pub found_at : FrontNeeds p h (j + 1) front
    found_at = record {
      few = omega arith;
      front = subst (RowFront p h) (sym (ap (take (j + 1)) found.put ∙ front-put ks j found.place (omega (arith, ready.short)))) found.first.holds.front;
    }

    pub found-row : (all : List ℕ) → FirstRow (PlacesWith p h (j + 1) front) h front all → FirstRow (LaterPlaces p h ks) h ks all
    found-row all f = record {
      first = next-found p h ready ks long j low gone front found (take h all) f.first;
      behind = f.behind ∙ ap (drop h) found.put ∙ drop-set-lt h ks j found.place low;
    }
