-- All summary rows of a question, ascending, each once.
use mathlib.Core.Path.{◌≡◌, refl, sym, subst}
use mathlib.Core.Logic.{◌↔◌}
use mathlib.Core.Option.{Option, some, none, none-ne-some}
use mathlib.Core.List.Memᴰ
use mathlib.Core.List.{List, map}
use Prim.Native.Nat.{ℕ, ◌≤◌}
use native.Mathlib.Omega.{arith}
use lib.ListN.{length}
use Rattle.spec.specs.Words.{◌∈◌, Term, con, Subgoal, Rule}
use Rattle.spec.specs.Summaries.{place, Summaries, or_none, summary, SummaryRow}
use Rattle.spec.specs.Order.{RowBefore, Ascending}
use Rattle.spec.proofs.Decided.Sound.{AllSafe}
use Rattle.spec.proofs.Decided.Equal.{eq_number, eq_term}
use Rattle.spec.proofs.Lists.Gathered.{gather, gather-in, gather-out, from, from_out}
use Rattle.spec.proofs.Decided.Orders.{row_order}
use Rattle.spec.proofs.Lists.Rising.{rising-ascending}
use Rattle.spec.proofs.Lists.Enumerate.{Enumerates}
use Rattle.spec.proofs.Lists.Sorted.{sorted, sorted-in, sorted-out, sorted-rising}
use Rattle.spec.proofs.Lists.Counted.{counted, counted-in, place-within}
use Rattle.spec.proofs.Decided.RowsYielded.{yielded, yielded-sound, yielded-complete}

pub summary-within : (s : Summaries) (n : ℕ) (r : Rule ℕ) → summary s n ≡ some r → (1 ≤ n) × (n ≤ length s)
summary-within s n r e = go (place s n) refl e
  where
    go : (o : Option (Option (Rule ℕ))) → place s n ≡ o → or_none o ≡ some r → (1 ≤ n) × (n ≤ length s)
    go none p q = absurd (none-ne-some r q)
    go (some o) p q = place-within s n o p

abbrev pub RowList : Type 0
RowList = List (Subgoal (Term ℕ))

abbrev pub as_row : ℕ → List (Term ℕ) → Subgoal (Term ℕ)
as_row n row = record { relation = n; terms = row }

module _ (s : Summaries) (q : Rule ℕ) where
  abbrev rows_by : ℕ → Rule ℕ → List (Subgoal (Term ℕ))
  rows_by n r = map (as_row n) (yielded eq_number (eq_term eq_number) con r q.body)

  -- those of one summary, in any order
  abbrev pub rows_of : ℕ → List (Subgoal (Term ℕ))
  rows_of n = from (rows_by n) (summary s n)

  abbrev pub all_rows : List (Subgoal (Term ℕ))
  all_rows = sorted row_order (gather rows_of (counted 1 (length s)))

  pub all_rows-sound : (g : Subgoal (Term ℕ)) → g ∈ all_rows → SummaryRow s q g
  all_rows-sound g m =
      let n = gather-out rows_of (counted 1 (length s)) (sorted-out row_order (gather rows_of (counted 1 (length s))) g m) in
      let r = from_out (rows_by n.0) (summary s n.0) n.2 in
      let w = Memᴰ.of_map (as_row n.0) (yielded eq_number (eq_term eq_number) con r.0 q.body) r.2 in
      subst (SummaryRow s q) w.2 record { rule = r.0; admitted = r.1; yields = yielded-sound eq_number (eq_term eq_number) con r.0 q.body w.0 w.1 }

  pub all_rows-complete : AllSafe s → (g : Subgoal (Term ℕ)) → SummaryRow s q g → g ∈ all_rows
  all_rows-complete safe g y =
      let w = summary-within s g.relation y.rule y.admitted in
      let i = Memᴰ.map (as_row g.relation) (yielded-complete eq_number (eq_term eq_number) con y.rule q.body (safe g.relation y.rule y.admitted) g.terms y.yields) in
      let j : g ∈ rows_of g.relation = subst (λ o. g ∈ from (rows_by g.relation) o) (sym y.admitted) i in
      sorted-in row_order (gather rows_of (counted 1 (length s))) g (gather-in rows_of (counted 1 (length s)) (counted-in 1 (length s) g.relation w.0 (omega arith)) j)

  pub all_rows-ascending : Ascending all_rows
  all_rows-ascending = rising-ascending all_rows (sorted-rising row_order (gather rows_of (counted 1 (length s))))

  pub all_rows-enumerate : AllSafe s → Enumerates (SummaryRow s q) RowBefore all_rows
  all_rows-enumerate safe = record { sound = all_rows-sound; complete = all_rows-complete safe; rising = sorted-rising row_order (gather rows_of (counted 1 (length s))) }

  pub all_rows-are : AllSafe s → (g : Subgoal (Term ℕ)) → (g ∈ all_rows) ↔ SummaryRow s q g
  all_rows-are safe g = (all_rows-sound g, all_rows-complete safe g)
