-- Over one target: from the places of the rest to those of this source subgoal on, and back.
use mathlib.Core.Path.{◌≡◌, refl, sym, ◌∙◌}
use mathlib.Core.List.{List, ◌∷◌}
use Prim.Native.Nat.{ℕ, suc, ◌-◌, ◌<◌}
use native.Mathlib.Omega.{arith}
use Rattle.task.specs.Task.{Task, goals, targets, target_relation, source_relation, width_of, last_of, Agrees, Linked, Completes, put, Extends}
use Rattle.task.specs.Completion.{Completion}
use Rattle.task.specs.Terms.{Opened}
use Rattle.task.proofs.Guess.{Guess, guess-known}
use Rattle.task.proofs.Crossing.{through, before}

-- every completion puts the source subgoal at somewhere
pub record FirstStep (p : Task) (at : ℕ) (v : ℕ → ℕ) (js : List ℕ) : Type 0 where
  pub k : ℕ
  pub ks : List ℕ
  pub w : ℕ → ℕ
  pub is : js ≡ k ∷ ks
  pub within : k < targets p
  pub agrees : Agrees p v at k
  pub linked : Linked p at v w
  pub rest : Completes p (goals p - suc at) (suc at) w ks

taken : (p : Task) (at : ℕ) (v : ℕ → ℕ) (js : List ℕ) → Completes p (suc (goals p - suc at)) at v js → FirstStep p at v js
taken p at v js (put i g n s) = record { k = _; ks = _; w = _; is = refl; within = i; agrees = g; linked = n; rest = s }

module _ (p : Task) (at : ℕ) (more : at < goals p) where
  again : goals p - at ≡ suc (goals p - suc at)
  again = omega arith

  pub step : (v : ℕ → ℕ) (js : List ℕ) → Completes p (goals p - at) at v js → FirstStep p at v js
  step v js q = taken p at v js (rw again at q)

  -- a target that this subgoal becomes, and the rest
  pub stepped : (k : ℕ) (v w : ℕ → ℕ) (l : List ℕ) → k < targets p → Agrees p v at k → Linked p at v w → Completes p (goals p - suc at) (suc at) w l → Completes p (goals p - at) at v (k ∷ l)
  stepped k v w l i a n s = rw again (put i a n s)

module _ (p : Task) (at : ℕ) (b : List ℕ) (k : ℕ) (g h : List ℕ) (new : ℕ) (c : Guess p b at k (width_of p at) g new) (o : Opened (last_of p at) g h) where
  -- values that go over the target have what is bound after it
  pub after : (u w : ℕ → ℕ) → Extends b u → Agrees p u at k → Linked p at u w → Extends h w
  after u w y a n x d =
      let t = through p at g h o u w x n d in
      t.1 ∙ guess-known p b at k (width_of p at) g new c u x a.terms (y x) (λ z. d (t.0 ∙ z)) ∙ sym t.0

  -- values that have what is bound after it come from some that go over the target
  pub over : target_relation p k ≡ source_relation p at → (w : ℕ → ℕ) → Extends h w → (v : ℕ → ℕ) × Extends b v × Agrees p v at k × Linked p at v w
  over rel w e =
      let u = before p at g h o w e in
      (u.0, (λ x n. u.1 x (λ z. n (sym (c.keeps x n) ∙ z)) ∙ c.keeps x n), record { relation = rel; terms = c.fits u.0 u.1 }, u.2)

  pub onward : at < goals p → k < targets p → target_relation p k ≡ source_relation p at → (l : List ℕ) → Completion p (suc at) h l → Completion p at b (k ∷ l)
  onward more i rel l d =
      let u = over rel d.val d.extends in
      record { val = u.0; extends = u.1; completes = stepped p at more k u.0 d.val l i u.2 u.3 d.completes }
