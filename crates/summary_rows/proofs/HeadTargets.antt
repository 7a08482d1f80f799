-- A place of the head has one term, so whether a target serves it can be tested; and where there is such a target the tests find one.
use mathlib.Core.Path.{◌≡◌}
use mathlib.Core.Logic.Dec
use mathlib.Core.Logic.{◌⊎◌, inl, inr, ∥∥₁_elim}
use Prim.Native.Nat.{ℕ, ◌+◌, ◌*◌, ◌<◌}
use native.Mathlib.Decide.{ℕ_discrete}
use lib.ListN.{get_or}
use Rattle.spec.proofs.Lists.Finite.{positive, below_or_not}
use Rattle.task.specs.Task.{Task, targets, source_relation, target_relation, width_of, value_of, Agrees}
use Rattle.summary_rows.specs.RowPlaces.{head_term}
use Rattle.summary_rows.proofs.Fixing.{only-term, term-only}

module _ (p : Task) (i : ℕ) (single : width_of p i ≡ 1) (v : ℕ → ℕ) where
  agrees-tested : (k : ℕ) → Dec (Agrees p v i k)
  agrees-tested k = go (ℕ_discrete (target_relation p k) (source_relation p i)) (ℕ_discrete (value_of v (head_term p i)) (get_or p.target (9 * k + 1) 0))
    where
      go : Dec (target_relation p k ≡ source_relation p i) → Dec (value_of v (head_term p i) ≡ get_or p.target (9 * k + 1) 0) → Dec (Agrees p v i k)
      go (yes r) (yes t) = yes (term-only p i k single v r t)
      go (no f) t = no (λ a. f a.relation)
      go (yes r) (no f) = no (λ a. f (only-term p i k single v a))

  pub target-found : ∥ ((k : ℕ) × (k < targets p) × Agrees p v i k) ∥₁ → (k : ℕ) × (k < targets p) × Agrees p v i k
  target-found some = go (below_or_not (λ k. Agrees p v i k → ⊥) (λ k. Dec.not (agrees-tested k)) (targets p))
    where
      go : ((k : ℕ) → k < targets p → Agrees p v i k → ⊥) ⊎ ((k : ℕ) × (k < targets p) × ((Agrees p v i k → ⊥) → ⊥)) → (k : ℕ) × (k < targets p) × Agrees p v i k
      go (inl none) = absurd (∥∥₁_elim some (λ x y. absurd x) (λ w. none w.0 w.1 w.2))
      go (inr w) = (w.0, w.1, positive (agrees-tested w.0) w.2)
