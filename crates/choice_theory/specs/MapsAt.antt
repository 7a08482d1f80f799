-- A containment mapping by places: for each subgoal of the source the target that it becomes, both counted from 0.
use Rattle.std.specs.Prelude.{◌≡◌, List, map, ℕ, ◌<◌, length, get_or}
use Rattle.spec.specs.Words.{Term, con, Subgoal, Rule, becomes, each}
use Rattle.choice_theory.specs.Numbered.{nothing}

pub record MapsAt {X Y : Type 0} (q : Rule X) (head : List (Term Y)) (targets : List (Subgoal (Term Y))) (ks : List ℕ) : Type 0 where
  pub value : X → Term Y
  pub gives : map (becomes con value) q.head ≡ head
  pub long : length ks ≡ length q.body
  pub within : (i : ℕ) → i < length q.body → get_or ks i 0 < length targets
  pub same : (i : ℕ) → i < length q.body → each (becomes con value) (get_or q.body i nothing) ≡ get_or targets (get_or ks i 0) nothing
