-- A row is dropped where another stands for it, and nothing is lost.
use mathlib.Core.Path.{◌≡◌}
use mathlib.Core.Bool.{Bool, true, false, cond, Bool-set}
use mathlib.Core.Logic.{◌↔◌, ∥∥₁_elim}
use mathlib.Core.List.{List}
use Prim.Native.Nat.{ℕ, ◌<◌}
use native.Mathlib.Omega.{arith}
use lib.Bits.{bit_or}
use lib.ListN.{length, get_or}
use Rattle.spec.specs.Words.{Rule}
use Rattle.spec.specs.Summaries.{Summaries}
use Rattle.spec.proofs.Decided.Rows.{RowList}
use Rattle.choice_theory.specs.Can.{CanBy}
use Rattle.choice_theory.proofs.Dominance.{drop-dominated}
use Rattle.bits.specs.Sets.{Has, without, Meets}
use Rattle.bits.proofs.Laws.{or_cases}
use Rattle.bits.proofs.Less.{without-out, without_in}
use Rattle.bits.proofs.Common.{meets-some}
use Rattle.task.specs.Task.{Task}
use Rattle.task.specs.Mapped.{Feasible}
use Rattle.placing.specs.FirstPlaces.{Enough}
use Rattle.first_shortest.specs.Pruning.{Table, FeasibilityNeeds, Spared, Pruned}
use Rattle.first_shortest.proofs.Tests.{feasible-can}

module _ {dom : List ℕ} {n used may kept row : ℕ} (p : Pruned dom n used may kept) (here : row < n) where
  dropped : Meets (without (get_or dom row 0) row) (bit_or used kept) true → Pruned dom n used may (without kept row)
  dropped m = record { less = λ u h. p.less u (without-out kept row u h).0; same = λ s q rows e o b. let x = p.same s q rows e o b in let y = drops s q rows e o b in (λ c. y.0 (x.0 c), λ c. x.1 (y.1 c)) }
    where
      w : (x : ℕ) × Has (without (get_or dom row 0) row) x × Has (bit_or used kept) x
      w = meets-some _ _ m

      over : Has (get_or dom row 0) w.0 × (w.0 ≡ row → ⊥)
      over = without-out (get_or dom row 0) row w.0 w.1

      drops : (s : Summaries) (q : Rule ℕ) (rows : RowList) → length rows ≡ n → Table s rows n dom → (b : ℕ) → CanBy s q rows (Has used) (Has kept) b ↔ CanBy s q rows (Has used) (Has (without kept row)) b
      drops s q rows e o b = drop-dominated s q rows w.0 row (o.sound row w.0 here over.0) (omega (arith, o.within row w.0 here over.0))
          over.1 (λ u h i. (without-out kept row u i).0) (λ u h f i. without_in kept row u i f) (or_cases used kept w.0 w.2)

  pub pruned-next : {fewer : ℕ} → Spared used kept (get_or dom row 0) row fewer → Pruned dom n used may fewer
  pruned-next {fewer} v = go v.drops v.exactly v.result
    where
      go : (a : Bool) → Meets (without (get_or dom row 0) row) (bit_or used kept) a → fewer ≡ cond a (without kept row) kept → Pruned dom n used may fewer
      go true m z = rw z (dropped m)
      go false m z = rw z p

-- The search over fewer rows answers for all.
module _ {t : Task} {b : List ℕ} {n : ℕ} {dom : List ℕ} {used may fewer left : ℕ} (p : Pruned dom n used may fewer) where
  among-more : Feasible t b used fewer left → Feasible t b used may left
  among-more f = record {
    places = f.places;
    mapped = f.mapped;
    within = record { taken = f.within.taken; few = f.within.few; allowed = λ row m. p.less row (f.within.allowed row m); each = f.within.each };
  }

  among-fewer : FeasibilityNeeds t b n dom → Feasible t b used may left → Feasible t b used fewer left
  among-fewer o f =
      let all = feasible-can o.task.by used may left in
      let some = feasible-can o.task.by used fewer left in
      some.1 ((p.same _ o.task.question _ o.task.by.count o.table left).0 (all.0 f))

  pub pruned-enough : {a : Bool} → ∥ FeasibilityNeeds t b n dom ∥₁ → Enough t b used fewer left a → Enough t b used may left a
  pruned-enough {a} o e = record { exactly = (λ z. among-more (e.exactly.0 z), λ f. ∥∥₁_elim o (Bool-set a true) (λ w. e.exactly.1 (among-fewer w f))) }
