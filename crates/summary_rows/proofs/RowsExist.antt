-- All rows of a safe summary, in order, as a list.
use mathlib.Core.Path.{◌≡◌, refl, subst}
use mathlib.Core.List.Memᴰ
use mathlib.Core.List.{List, map}
use Prim.Native.Nat.{ℕ}
use Rattle.spec.specs.Words.{◌∈◌, Term, con, Subgoal, Rule, Safe}
use Rattle.spec.specs.Order.{RowBefore}
use Rattle.spec.proofs.Lists.Enumerate.{Enumerates}
use Rattle.spec.proofs.Decided.Equal.{eq_number, eq_term}
use Rattle.spec.proofs.Decided.Orders.{row_order}
use Rattle.spec.proofs.Lists.Sorted.{sorted, sorted-in, sorted-out, sorted-rising}
use Rattle.spec.proofs.Decided.RowsYielded.{yielded, yielded-sound, yielded-complete}
use Rattle.summary_rows.specs.RowsAfter.{RowBy}
use Rattle.spec.proofs.Decided.Rows.{as_row}

module _ (n : ℕ) (v q : Rule ℕ) where
  heads : List (List (Term ℕ))
  heads = yielded eq_number (eq_term eq_number) con v q.body

  rows_by : List (Subgoal (Term ℕ))
  rows_by = sorted row_order (map (as_row n) heads)

  sound : (g : Subgoal (Term ℕ)) → g ∈ rows_by → RowBy n v q g
  unfolding heads rows_by
  sound g m =
      let w = Memᴰ.of_map (as_row n) heads (sorted-out row_order (map (as_row n) heads) g m) in
      subst (RowBy n v q) w.2 record { number = refl; yields = yielded-sound eq_number (eq_term eq_number) con v q.body w.0 w.1 }

  complete : Safe v → (g : Subgoal (Term ℕ)) → RowBy n v q g → g ∈ rows_by
  unfolding heads rows_by
  complete safe g y =
      let same : g ≡ as_row n g.terms = (λ i. record { relation = y.number i; terms = g.terms }) in
      sorted-in row_order (map (as_row n) heads) g (Memᴰ.cast same (Memᴰ.map (as_row n) (yielded-complete eq_number (eq_term eq_number) con v q.body safe g.terms y.yields)))

  pub rows-exist : Safe v → (l : List (Subgoal (Term ℕ))) × Enumerates (RowBy n v q) RowBefore l
  unfolding heads rows_by
  rows-exist safe = (rows_by, record { sound = sound; complete = complete safe; rising = sorted-rising row_order (map (as_row n) heads) })
