-- Summary by summary, the rows come to be all summary rows; where a summary's rows are too many, all rows are.
use mathlib.Core.Path.{◌≡◌, sym, ap, ◌∙◌}
use mathlib.Core.Logic.{inl, ⊎_elim, ◌↔◌}
use mathlib.Core.Option.{some, none, none-ne-some, some-injective}
use mathlib.Core.List.Memᴰ
use mathlib.Core.List.{List, [], ◌++◌}
use Prim.Native.Nat.{ℕ, suc, ◌<◌, ◌≤◌}
use native.Mathlib.Omega.{arith}
use native.Mathlib.Decide.{dec_le}
use lib.Dec.{ltb, ltb→lt, lt→ltb}
use lib.ListN.{length}
use Rattle.spec.specs.Words.{◌∈◌, Term, con, Subgoal, Rule, Listed, Yields}
use Rattle.spec.specs.Summaries.{Summaries, summary, SummaryRow}
use Rattle.spec.specs.Order.{RowBefore}
use Rattle.spec.proofs.Decided.Sound.{AllSafe}
use Rattle.spec.proofs.Decided.Orders.{row_order}
use Rattle.spec.proofs.Lists.Gathered.{passing, passing-in, passing-out}
use Rattle.spec.proofs.Lists.Rising.{rising-append, rising-passing}
use Rattle.spec.proofs.Lists.Enumerate.{Enumerates}
use Rattle.spec.proofs.Decided.Rows.{all_rows, all_rows-enumerate, summary-within}
use Rattle.summary_rows.specs.RowsAfter.{RowBy}
use Rattle.summary_rows.specs.Tables.{RowTo}
use Rattle.summary_rows.proofs.Unique.Rows.{enumerates-once}

module _ (s : Summaries) (q : Rule ℕ) where
  -- the rows by the rule of an admitted summary are the summary rows of its number
  pub row_by : (n : ℕ) (v : Rule ℕ) → summary s n ≡ some v → (g : Subgoal (Term ℕ)) → RowBy n v q g ↔ ((g.relation ≡ n) × SummaryRow s q g)
  row_by n v e g = (λ y. (y.number, record { rule = v; admitted = ap (summary s) y.number ∙ e; yields = y.yields }), λ y. record { number = y.0; yields = yields y })
    where
      yields : (g.relation ≡ n) × SummaryRow s q g → Yields con v (Listed q.body) g.terms
      yields y = let r : y.1.rule ≡ v = some-injective y.1.rule v (sym y.1.admitted ∙ ap (summary s) y.0 ∙ e) in rw r at y.1.yields

  pub rows_none : Enumerates (RowTo s q 0) RowBefore []
  rows_none = record { sound = λ g m. absurd (Memᴰ.not-nil m); complete = λ g y. absurd (omega (arith, y.up_to, (summary-within s g.relation y.row.rule y.row.admitted).0)); rising = tt }

  -- a summary that is left out has no rows
  pub rows-skip : (n : ℕ) (l : List (Subgoal (Term ℕ))) → summary s (suc n) ≡ none → Enumerates (RowTo s q n) RowBefore l → Enumerates (RowTo s q (suc n)) RowBefore l
  rows-skip n l e a = record {
    sound = λ g m. (let y = a.sound g m in record { row = y.row; up_to = omega (arith, y.up_to) });
    complete = λ g y. a.complete g (record { row = y.row; up_to = lower g y (dec_le g.relation n) });
    rising = a.rising;
  }
    where
      lower : (g : Subgoal (Term ℕ)) → RowTo s q (suc n) g → Dec (g.relation ≤ n) → g.relation ≤ n
      lower g y (yes h) = h
      lower g y (no h) =
          let z : g.relation ≡ suc n = omega (arith, y.up_to) in
          absurd (none-ne-some y.row.rule (sym e ∙ ap (summary s) (sym z) ∙ y.row.admitted))

  pub rows_more : (n : ℕ) (v : Rule ℕ) (l m : List (Subgoal (Term ℕ))) → summary s (suc n) ≡ some v → Enumerates (RowTo s q n) RowBefore l → Enumerates (RowBy (suc n) v q) RowBefore m
      → Enumerates (RowTo s q (suc n)) RowBefore (l ++ m)
  rows_more n v l m e a b = record {
    sound = λ g i. ⊎_elim (λ j. let y = a.sound g j in record { row = y.row; up_to = omega (arith, y.up_to) }) (λ j. new g (b.sound g j)) (Memᴰ.append_cases l i);
    complete = λ g y. old-or-new g y (dec_le g.relation n);
    rising = rising-append RowBefore l m a.rising b.rising (λ g k i j. inl (omega (arith, (a.sound g i).up_to, (b.sound k j).number)));
  }
    where
      new : (g : Subgoal (Term ℕ)) → RowBy (suc n) v q g → RowTo s q (suc n) g
      new g y = record { row = ((row_by (suc n) v e g).0 y).1; up_to = omega (arith, y.number) }

      old-or-new : (g : Subgoal (Term ℕ)) → RowTo s q (suc n) g → Dec (g.relation ≤ n) → g ∈ (l ++ m)
      old-or-new g y (yes h) = Memᴰ.append_left m (a.complete g record { row = y.row; up_to = h })
      old-or-new g y (no h) = Memᴰ.append_right l (b.complete g ((row_by (suc n) v e g).1 (omega (arith, y.up_to), y.row)))

  -- the rows of all summaries are all summary rows
  pub rows_all : AllSafe s → (l : List (Subgoal (Term ℕ))) → Enumerates (RowTo s q (length s)) RowBefore l → l ≡ all_rows s q
  rows_all safe l a = enumerates-once row_order (SummaryRow s q) l (all_rows s q)
      record { sound = λ g m. (a.sound g m).row; complete = λ g y. a.complete g record { row = y; up_to = (summary-within s g.relation y.rule y.admitted).1 }; rising = a.rising }
      (all_rows-enumerate s q safe)

  -- the rows of the summaries 1 to n are the first of all summary rows
  pub rows-front : AllSafe s → (n : ℕ) (l : List (Subgoal (Term ℕ))) → Enumerates (RowTo s q n) RowBefore l → (later : List (Subgoal (Term ℕ))) × (all_rows s q ≡ l ++ later)
  rows-front safe n l a = (later, whole)
    where
      later : List (Subgoal (Term ℕ))
      later = passing (λ g. ltb n g.relation) (all_rows s q)

      all : Enumerates (SummaryRow s q) RowBefore (all_rows s q)
      all = all_rows-enumerate s q safe

      beyond : (g : Subgoal (Term ℕ)) → g ∈ later → n < g.relation
      beyond g m = ltb→lt n g.relation (passing-out (λ k. ltb n k.relation) (all_rows s q) m).1

      place_of : (g : Subgoal (Term ℕ)) → SummaryRow s q g → Dec (g.relation ≤ n) → g ∈ (l ++ later)
      place_of g y (yes h) = Memᴰ.append_left later (a.complete g record { row = y; up_to = h })
      place_of g y (no h) = Memᴰ.append_right l (passing-in (λ k. ltb n k.relation) (all_rows s q) (all.complete g y) (lt→ltb n g.relation (omega arith)))

      both : Enumerates (SummaryRow s q) RowBefore (l ++ later)
      both = record {
        sound = λ g m. ⊎_elim (λ i. (a.sound g i).row) (λ i. all.sound g (passing-out (λ k. ltb n k.relation) (all_rows s q) i).0) (Memᴰ.append_cases l m);
        complete = λ g y. place_of g y (dec_le g.relation n);
        rising = rising-append RowBefore l later a.rising (rising-passing RowBefore (λ k. ltb n k.relation) (all_rows s q) all.rising) (λ g k i j. inl (omega (arith, (a.sound g i).up_to, beyond k j)));
      }

      whole : all_rows s q ≡ l ++ later
      whole = enumerates-once row_order (SummaryRow s q) (all_rows s q) (l ++ later) all both
