-- The distance is the one number of steps, below 4,294,967,295, from need to stamp round the ring.
use Rattle.std.proofs.Common.{◌≡◌, ℕ, zero, suc, ◌+◌, ◌-◌, ◌%◌, ◌<◌, ◌≤◌, cond, ap, ◌∙◌, arith, eq-eqb, ne_eqb}
use native.Mathlib.Decide.{ℕ_discrete}
use Rattle.spec.specs.Refresh.{ring, successor, number_after, distance}

-- One step on, with the ring's numbers counted from 0.
module _ (n d m : ℕ) (from : 1 ≤ n) (e : m ≡ (n - 1 + d) % ring + 1) where
  at-end : m ≡ ring → 1 ≡ (n - 1 + suc d) % ring + 1
  at-end h = omega arith

  before-end : (m ≡ ring → ⊥) → suc m ≡ (n - 1 + suc d) % ring + 1
  before-end h = omega arith

  successor-is : Dec (m ≡ ring) → successor m ≡ (n - 1 + suc d) % ring + 1
  successor-is (yes h) = ap (λ t. cond t 1 (suc m)) (eq-eqb m ring h) ∙ at-end h
  successor-is (no h) = ap (λ t. cond t 1 (suc m)) (ne_eqb m ring h) ∙ before-end h

module _ (n : ℕ) (from : 1 ≤ n) (to : n ≤ ring) where
  number-after : (d : ℕ) → number_after n d ≡ (n - 1 + d) % ring + 1
  unfolding number_after
  number-after zero = let w : n ≡ (n - 1 + 0) % ring + 1 = omega arith in w
  number-after (suc d) = successor-is n d (number_after n d) from (number-after d) (ℕ_discrete (number_after n d) ring)

module _ (need stamp : ℕ) (need-from : 1 ≤ need) (need-to : need ≤ ring) (stamp-from : 1 ≤ stamp) (stamp-to : stamp ≤ ring) where
  reaches : (need - 1 + distance need stamp) % ring + 1 ≡ stamp
  reaches = omega arith

  pub distance-reaches : number_after need (distance need stamp) ≡ stamp
  distance-reaches = number-after need need-from need-to (distance need stamp) ∙ reaches

  pub distance-only : (d : ℕ) → d < ring → number_after need d ≡ stamp → d ≡ distance need stamp
  distance-only d h e = omega (arith, number-after need need-from need-to d, e)
