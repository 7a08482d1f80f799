-- The steps of the listing, as its code takes them: of every summary and question whose task it is.
use mathlib.Core.Path.{◌≡◌, refl, ap, ◌∙◌}
use mathlib.Core.List.{List}
use Prim.Native.Nat.{ℕ, ◌+◌, ◌*◌, ◌<◌, ◌≤◌}
use native.Mathlib.Omega.{arith}
use lib.ListN.{length, take}
use lib.Seq.{paste, length-paste}
use Rattle.std.specs.Prelude.{Option, Some, None, IfSome}
use Rattle.spec.specs.Words.{Term, Rule}
use Rattle.spec.specs.Table.{most_rows}
use Rattle.task.specs.Task.{Task}
use Rattle.summary_rows.specs.RowTask.{TaskOf}
use Rattle.summary_rows.specs.RowPlaces.{HeadTask, RowPlaces, NextRowNeeds, StartPlaces, NextPlaces}
use Rattle.summary_rows.specs.RowCodes.{row_codes}
use Rattle.summary_rows.specs.RowsAfter.{RowsNeeds, RowsSays}
use Rattle.summary_rows.proofs.HeadLaws.{row-ready}
use Rattle.summary_rows.proofs.RowCodes.{row-long}
use Rattle.summary_rows.proofs.Listing.{RowsSoFar, listing_start, listing-more, listing-end, listing-over}

pub record State (p : Task) (h n found : ℕ) (before out : List ℕ) (next : Option (List ℕ)) (count : ℕ) : Type 0 where
  pub small : count ≤ most_rows
  pub long : length out ≡ length before
  pub row : IfSome next (λ ks. RowPlaces p h (take h ks))
  pub each : (v q : Rule ℕ) (ts : List (Term ℕ)) → TaskOf v q ts p h → RowsSoFar n v q ts h found before out next count

pub head-task : {p : Task} {h found area : ℕ} → RowsNeeds p h found area → HeadTask p h
head-task {p} {h} asked = row-ready asked.rule asked.question asked.terms p h asked.task

module _ (p : Task) (h n found : ℕ) (before : List ℕ) (asked : RowsNeeds p h found (length before)) where
  pub state-start : (r : Option (List ℕ)) → StartPlaces p h r → State p h n found before before r found
  state-start r a = record { small = asked.few; long = refl; row = row r a; each = λ v q ts w. listing_start n v q ts p h w found before r a }
    where
      row : (r : Option (List ℕ)) → StartPlaces p h r → IfSome r (λ ks. RowPlaces p h (take h ks))
      row None a = tt
      row (Some ks) a = a.first.holds

  module _ (out ks : List ℕ) (count : ℕ) (s : State p h n found before out (Some ks) count) where
    -- what a `RowTask` has in its type, and what `next_row` asks beside it
    pub at_row : HeadTask p h × NextRowNeeds p h ks
    at_row = (head-task asked, s.row)

    pub room : count < most_rows → 9 * count + 9 ≤ length out
    room l = omega (arith, s.long, asked.room)

    pub state-more : count < most_rows → (out' : List ℕ) → out' ≡ paste out (9 * count) (row_codes n p.target (take h ks)) 9 → (r : Option (List ℕ)) → NextPlaces p h ks r → State p h n found before out' r (count + 1)
    state-more l out' e r a = record {
      small = omega arith;
      long = ap length e ∙ length-paste out (9 * count) (row_codes n p.target (take h ks)) 9 (room l) (omega (arith, row-long n p.target (take h ks))) ∙ s.long;
      row = row r a;
      each = λ v q ts w. listing-more n v q ts p h w found before out ks count (omega (arith, asked.room)) (s.each v q ts w) out' e r a;
    }
      where
        row : (r : Option (List ℕ)) → NextPlaces p h ks r → IfSome r (λ ks. RowPlaces p h (take h ks))
        row None a = tt
        row (Some js) a = a.first.holds.row

    pub state-over : count ≡ most_rows → RowsSays p h n found before out None
    state-over e = record { rows = λ v q ts w. listing-over n v q ts p h w found before out ks count e (s.each v q ts w) }

  pub state-end : (out : List ℕ) (count : ℕ) → State p h n found before out None count → RowsSays p h n found before out (Some count)
  state-end out count s = record { rows = λ v q ts w. listing-end n v q ts p h w found before out count s.small (s.each v q ts w) }
