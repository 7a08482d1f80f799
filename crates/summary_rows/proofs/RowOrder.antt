-- The first places are the first row, and the next places the next row.
use mathlib.Core.Path.{◌≡◌, refl, sym, subst}
use mathlib.Core.Logic.{◌⊎◌, inl, inr, ⊎_elim}
use mathlib.Core.List.{List}
use Prim.Native.Nat.{ℕ, ◌<◌}
use native.Mathlib.Omega.{arith}
use lib.ListN.{take}
use Rattle.spec.specs.Words.{Term, Subgoal, Rule}
use Rattle.spec.specs.Order.{RowBefore, ListBefore, First}
use Rattle.spec.proofs.Decided.Rows.{as_row}
use Rattle.task.specs.Task.{Task}
use Rattle.summary_rows.specs.RowTask.{TaskOf}
use Rattle.summary_rows.specs.RowPlaces.{RowPlaces, LaterPlaces}
use Rattle.summary_rows.specs.RowsAfter.{RowBy}
use Rattle.summary_rows.proofs.AtTerms.{Stand, stand-same, stand-before, before-stand}
use Rattle.summary_rows.proofs.RowTies.{row_out, row_in}

module _ (n : ℕ) (v q : Rule ℕ) (ts : List (Term ℕ)) (p : Task) (h : ℕ) (w : TaskOf v q ts p h) where
  same_row : (row : List (Term ℕ)) (g : Subgoal (Term ℕ)) → g.relation ≡ n → row ≡ g.terms → as_row n row ≡ g
  same_row row g e f = λ i. record { relation = sym e i; terms = f i }

  -- Where places and rows with some properties stand for each other, the first places are the first row's.
  module _ (Q : List ℕ → Type 0) (P : Subgoal (Term ℕ) → Type 0)
      (out : (js : List ℕ) → Q js → (row : List (Term ℕ)) × Stand ts js row × P (as_row n row))
      (back : (g : Subgoal (Term ℕ)) → P g → (js : List ℕ) × Q js × Stand ts js g.terms × (g.relation ≡ n)) where
    first-row : (js : List ℕ) → First Q (ListBefore ◌<◌) js → (row : List (Term ℕ)) × Stand ts js row × First P RowBefore (as_row n row)
    first-row js f = (r.0, r.1, record { holds = r.2; least = least })
      where
        r : (row : List (Term ℕ)) × Stand ts js row × P (as_row n row)
        r = out js f.holds

        least : (g : Subgoal (Term ℕ)) → P g → (as_row n r.0 ≡ g) ⊎ RowBefore (as_row n r.0) g
        least g y =
            let b = back g y in
            ⊎_elim
            (λ e. inl (same_row r.0 g b.3 (stand-same ts js r.0 g.terms r.1 (subst (λ l. Stand ts l g.terms) (sym e) b.2))))
            (λ k. inr (inr (sym b.3, stand-before ts w.terms.all.rising js b.0 r.0 g.terms r.1 b.2 k)))
            (f.least b.0 b.1)

  pub start-row : (js : List ℕ) → First (RowPlaces p h) (ListBefore ◌<◌) js → (row : List (Term ℕ)) × Stand ts js row × First (RowBy n v q) RowBefore (as_row n row)
  start-row = first-row (RowPlaces p h) (RowBy n v q)
      (λ js y. let r = row_out v q ts p h w js y in (r.0, r.1, record { number = refl; yields = r.2 }))
      (λ g y. let j = row_in v q ts p h w g.terms y.yields in (j.0, j.1, j.2, y.number))

  pub start-empty : ((js : List ℕ) → RowPlaces p h js → ⊥) → (g : Subgoal (Term ℕ)) → RowBy n v q g → ⊥
  start-empty none g y = let j = row_in v q ts p h w g.terms y.yields in none j.0 j.1

  -- the rows after one
  abbrev pub RowAfter : List (Term ℕ) → Subgoal (Term ℕ) → Type 0
  RowAfter row g = RowBy n v q g × RowBefore (as_row n row) g

  module _ (ks : List ℕ) (row : List (Term ℕ)) (s : Stand ts (take h ks) row) where
    later-places : (g : Subgoal (Term ℕ)) → RowAfter row g → (js : List ℕ) × LaterPlaces p h ks js × Stand ts js g.terms × (g.relation ≡ n)
    later-places g y =
        let j = row_in v q ts p h w g.terms y.0.yields in
        (j.0, record { row = j.1; after = before-stand ts w.terms.all.rising (take h ks) j.0 row g.terms s j.2 (terms y.1) }, j.2, y.0.number)
      where
        terms : RowBefore (as_row n row) g → ListBefore Rattle.spec.specs.Order.TermBefore row g.terms
        terms (inl l) = absurd (omega (arith, y.0.number))
        terms (inr r) = r.1

    pub next_row : (js : List ℕ) → First (LaterPlaces p h ks) (ListBefore ◌<◌) js → (row' : List (Term ℕ)) × Stand ts js row' × First (RowAfter row) RowBefore (as_row n row')
    next_row = first-row (LaterPlaces p h ks) (RowAfter row)
        (λ js y. let r = row_out v q ts p h w js y.row in (r.0, r.1, (record { number = refl; yields = r.2 }, inr (refl, stand-before ts w.terms.all.rising (take h ks) js row r.0 s r.1 y.after))))
        later-places

    pub next-empty : ((js : List ℕ) → LaterPlaces p h ks js → ⊥) → (g : Subgoal (Term ℕ)) → RowAfter row g → ⊥
    next-empty none g y = let j = later-places g y in none j.0 j.1
