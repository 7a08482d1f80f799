-- The rows that stand written so far, and those that are left: together all rows of the summary.
use mathlib.Core.Path.{◌≡◌, sym, ap, ap₂, ◌∙◌, subst}
use mathlib.Core.List.{List, [], ◌∷◌, ◌++◌, append_assoc, append-nil}
use Prim.Native.Nat.{ℕ, ◌+◌, ◌*◌, ◌-◌, ◌≤◌}
use native.Mathlib.Omega.{arith}
use lib.ListN.{length, take, length-append, take-append-drop}
use lib.Seq.{take_all, take_at, paste}
use Rattle.spec.proofs.Decided.Rows.{as_row}
use Rattle.std.specs.Prelude.{Option, Some, None, MatchOption}
use Rattle.spec.specs.Words.{Term, Subgoal, Rule}
use Rattle.spec.specs.Order.{RowBefore}
use Rattle.spec.specs.Table.{most_rows}
use Rattle.spec.proofs.Lists.Enumerate.{Enumerates}
use Rattle.spec.proofs.Decided.Orders.{row_order}
use Rattle.task.specs.Task.{Task}
use Rattle.summary_rows.specs.RowTask.{TaskOf}
use Rattle.summary_rows.specs.RowPlaces.{StartPlaces, NextPlaces}
use Rattle.summary_rows.specs.RowCodes.{row_codes}
use Rattle.summary_rows.specs.RowsAfter.{RowBy, RowsAfter}
use Rattle.summary_rows.proofs.AtTerms.{Stand}
use Rattle.summary_rows.proofs.RowOrder.{start-row, start-empty, next_row, next-empty}
use Rattle.summary_rows.proofs.RowCodes.{row-codes}
use Rattle.summary_rows.proofs.RowsExist.{rows-exist}
use Rattle.summary_rows.proofs.Residual.{first_of, none_of, rest-enumerates}
use Rattle.summary_rows.proofs.Written.{table, table_more}

-- ks begins with the places of the first of the rows that are left
pub record RowAhead (n : ℕ) (ts : List (Term ℕ)) (h : ℕ) (rest : List (Subgoal (Term ℕ))) (ks : List ℕ) : Type 0 where
  pub row : List (Term ℕ)
  pub more : List (Subgoal (Term ℕ))
  pub stand : Stand ts (take h ks) row
  pub is : rest ≡ as_row n row ∷ more

-- `done` rows are written behind `found` others, and the rest of all rows is to come: next are the places of the first of it, if there is one.
pub record RowsSoFar (n : ℕ) (v q : Rule ℕ) (ts : List (Term ℕ)) (h found : ℕ) (before out : List ℕ) (next : Option (List ℕ)) (count : ℕ) : Type 0 where
  pub done : List (Subgoal (Term ℕ))
  pub rest : List (Subgoal (Term ℕ))
  pub all : Enumerates (RowBy n v q) RowBefore (done ++ rest)
  pub counted : count ≡ found + length done
  pub codes : out ≡ table before found done count
  pub ahead : MatchOption next (rest ≡ []) (RowAhead n ts h rest)

module _ (n : ℕ) (v q : Rule ℕ) (ts : List (Term ℕ)) (p : Task) (h : ℕ) (w : TaskOf v q ts p h) (found : ℕ) (before : List ℕ) where
  -- the start: nothing is written, and the first row is found
  pub listing_start : (r : Option (List ℕ)) → StartPlaces p h r → RowsSoFar n v q ts h found before before r found
  listing_start r a = record { done = []; rest = rows.0; all = rows.1; counted = omega arith; codes = sym (take-append-drop (9 * found) before); ahead = ahead r a }
    where
      rows : (l : List (Subgoal (Term ℕ))) × Enumerates (RowBy n v q) RowBefore l
      rows = rows-exist n v q w.safe

      ahead : (r : Option (List ℕ)) → StartPlaces p h r → MatchOption r (rows.0 ≡ []) (RowAhead n ts h rows.0)
      ahead None none = none_of row_order rows.0 rows.1 (start-empty n v q ts p h w none)
      ahead (Some ks) a =
          let f = start-row n v q ts p h w (take h ks) a.first in
          let g = first_of row_order rows.0 rows.1 (as_row n f.0) f.2 in
          record { row = f.0; more = g.0; stand = f.1; is = g.1 }

  -- a step: the row that ks begins with is written, and the next is found
  pub listing-more : (out ks : List ℕ) (count : ℕ) → 9 * count ≤ length before → RowsSoFar n v q ts h found before out (Some ks) count
      → (out' : List ℕ) → out' ≡ paste out (9 * count) (row_codes n p.target (take h ks)) 9 → (r : Option (List ℕ)) → NextPlaces p h ks r → RowsSoFar n v q ts h found before out' r (count + 1)
  listing-more out ks count room s out' e r a = record {
    done = s.done ++ (g ∷ []);
    rest = x.more;
    all = subst (Enumerates (RowBy n v q) RowBefore) (sym (append_assoc s.done (g ∷ []) x.more)) all;
    counted = omega (arith, s.counted, length-append s.done (g ∷ []));
    codes = e ∙ ap₂ (λ t y. paste t (9 * count) y 9) s.codes (row-codes v q ts p h w n (take h ks) x.row x.stand) ∙ table_more before found s.done count s.counted room g;
    ahead = ahead r a;
  }
    where
      x : RowAhead n ts h s.rest ks
      x = s.ahead

      g : Subgoal (Term ℕ)
      g = as_row n x.row

      all : Enumerates (RowBy n v q) RowBefore (s.done ++ (g ∷ x.more))
      all = subst (λ l. Enumerates (RowBy n v q) RowBefore (s.done ++ l)) x.is s.all

      left : Enumerates (λ b. RowBy n v q b × RowBefore g b) RowBefore x.more
      left = rest-enumerates row_order s.done g x.more all

      ahead : (r : Option (List ℕ)) → NextPlaces p h ks r → MatchOption r (x.more ≡ []) (RowAhead n ts h x.more)
      ahead None none = none_of row_order x.more left (next-empty n v q ts p h w ks x.row x.stand none)
      ahead (Some js) a =
          let f = next_row n v q ts p h w ks x.row x.stand (take h js) a.first in
          let y = first_of row_order x.more left (as_row n f.0) f.2 in
          record { row = f.0; more = y.0; stand = f.1; is = y.1 }

  -- the end: nothing is left
  pub listing-end : (out : List ℕ) (count : ℕ) → count ≤ most_rows → RowsSoFar n v q ts h found before out None count → RowsAfter n v q found before out (Some count)
  listing-end out count l s = record {
    rows = s.done;
    all = subst (Enumerates (RowBy n v q) RowBefore) (ap (λ r. s.done ++ r) s.ahead ∙ append-nil s.done) s.all;
    count = (s.counted, l);
    codes = s.codes ∙ ap₂ (table before found) (sym taken) (s.counted ∙ ap (λ r. found + length r) (sym taken));
  }
    where
      taken : take (most_rows - found) s.done ≡ s.done
      taken = take_all (most_rows - found) s.done (omega (arith, s.counted))

  -- one more than there may be
  pub listing-over : (out ks : List ℕ) (count : ℕ) → count ≡ most_rows → RowsSoFar n v q ts h found before out (Some ks) count → RowsAfter n v q found before out None
  listing-over out ks count l s = record {
    rows = s.done ++ s.rest;
    all = s.all;
    count = omega (arith, s.counted, length-append s.done s.rest, ap length s.ahead.is);
    codes = s.codes ∙ ap₂ (table before found) (sym taken) (s.counted ∙ ap (λ r. found + length r) (sym taken));
  }
    where
      taken : take (most_rows - found) (s.done ++ s.rest) ≡ s.done
      taken = take_at s.done s.rest (most_rows - found) (omega (arith, s.counted))
