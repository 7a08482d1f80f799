-- Theorem 3: an equivalent rewriting over summaries that hold just what their definitions yield, and the question over the facts, yield the same rows.
use mathlib.Core.Logic.Iff
use mathlib.Core.Logic.{◌↔◌}
use mathlib.Core.List.{List}
use Prim.Native.Nat.{ℕ}
use Rattle.spec.specs.Words.{Term, Subgoal, Rule, Facts, Listed, AllFit, Yields, itself}
use Rattle.spec.specs.Summaries.{Summaries, Yielded, HoldJust, expansion, Equivalent, rewriting}
use Rattle.spec.specs.Answer.{Rewrites}
use Rattle.spec.specs.Demand.{OverAdmitted}
use Rattle.spec.proofs.Decided.Equal.{Eq, eq_number, eq_own}
use Rattle.containment.proofs.Carry.{contains}
use Rattle.containment.proofs.Expand.{expansion-back, expansion-forth}
use Rattle.containment.proofs.Held.{over-held}
use Rattle.containment.proofs.Fit.{FitEvery, fit-expansion}
use Rattle.containment.proofs.Contain.{mappings-same}
use Rattle.containment.proofs.Suit.{SuitAll, row-suits}

pub suit-admitted : {X : Type 0} (s : Summaries) (r : Rule X) → SuitAll s r → OverAdmitted s r
suit-admitted s r suits g m = ((suits g m).rule, (suits g m).admitted)

-- Over what the summaries yield, over any values.
pub equivalent-same : {A X : Type 0} (k : ℕ → A) (s : Summaries) (q : Rule ℕ) (r : Rule X) → SuitAll s r → Equivalent s q r → (d : Facts A) (row : List A)
    → Yields k r (Yielded k s d) row ↔ Yields k q d row
equivalent-same k s q r suits e d row = (λ y. contains e.there (expansion-forth k s d r row y), λ y. expansion-back k s d r row suits (contains e.back y))

-- Over summaries that hold just what their definitions yield.
pub equivalent-held : {X : Type 0} (s : Summaries) (q : Rule ℕ) (r : Rule X) → SuitAll s r → Equivalent s q r → (d held : Facts ℕ) → HoldJust s d held → (row : List ℕ)
    → Yields itself r held row ↔ Yields itself q d row
equivalent-held s q r suits e d held just row = Iff.trans (over-held s d held just r (suit-admitted s r suits) row) (equivalent-same itself s q r suits e d row)

pub rewrites-suit : {s : Summaries} {q : Rule ℕ} {l : List (Subgoal (Term ℕ))} → Rewrites s q l → SuitAll s (rewriting q l)
rewrites-suit w g m = row-suits g (w.rows g m)

pub rewrites-held : (s : Summaries) (q : Rule ℕ) (l : List (Subgoal (Term ℕ))) → Rewrites s q l → (d held : Facts ℕ) → HoldJust s d held → (row : List ℕ)
    → Yields itself (rewriting q l) held row ↔ Yields itself q d row
rewrites-held s q l w = equivalent-held s q (rewriting q l) (rewrites-suit w) w.equivalent

-- So 'equivalent by mappings' and 'the same rows on all finite facts' are one, for rewritings too.
pub equivalent-is-same : {X : Type 0} (arities : List ℕ) → Eq X → (s : Summaries) (q : Rule ℕ) (r : Rule X) → SuitAll s r → AllFit arities q.body → FitEvery arities s
    → Equivalent s q r ↔ ((d : List (Subgoal ℕ)) → AllFit arities d → (row : List ℕ) → Yields itself r (Yielded itself s (Listed d)) row ↔ Yields itself q (Listed d) row)
equivalent-is-same arities e s q r suits fitq fits = (λ w d f row. equivalent-same itself s q r suits w (Listed d) row, λ same. back same)
  where
    back : ((d : List (Subgoal ℕ)) → AllFit arities d → (row : List ℕ) → Yields itself r (Yielded itself s (Listed d)) row ↔ Yields itself q (Listed d) row) → Equivalent s q r
    back same =
        let m = (mappings-same arities eq_number (eq_own e) q (expansion s r) fitq (fit-expansion arities s fits r)).1
        (λ d f row. (λ y. expansion-forth itself s (Listed d) r row ((same d f row).1 y), λ y. (same d f row).0 (expansion-back itself s (Listed d) r row suits y))) in
        record { there = m.0; back = m.1 }
