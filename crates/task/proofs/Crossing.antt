-- From one source subgoal to the next: what is bound, where a use may end between them.
use mathlib.Core.Bool.{cond}
use mathlib.Core.Path.{◌≡◌, refl, ap, sym, ◌∙◌}
use mathlib.Core.List.{List}
use Prim.Native.Nat.{ℕ}
use native.Mathlib.Omega.{arith}
use native.Mathlib.Decide.{ℕ_discrete, dec_lt}
use lib.ListN.{get_or}
use lib.Dec.{ltb}
use borrow.Author.Tests.{lt-ltb, le-ltb}
use Rattle.task.specs.Task.{Task, last_of, Linked, Extends}
use Rattle.task.specs.Terms.{Opened}

module _ (p : Task) (at : ℕ) (g h : List ℕ) (o : Opened (last_of p at) g h) where
  -- what is bound after it was bound before, and the next subgoal sees the same value
  pub through : (v w : ℕ → ℕ) (x : ℕ) → Linked p at v w → (get_or h x 0 ≡ 0 → ⊥) → (get_or h x 0 ≡ get_or g x 0) × (w x ≡ v x)
  through v w x n f = elim (ℕ_discrete (last_of p at) 0) [
    | yes z ↦ (ap (λ l. get_or l x 0) (o.same z), n.stays z x)
    | no d ↦ elim (dec_lt x 32) [ yes i ↦ (o.low x i, n.shared x i) | no i ↦ absurd (f (o.high d x (omega arith))) ]
  ]

  -- values for the next subgoal give values for this one
  abbrev back : (ℕ → ℕ) → ℕ → ℕ
  back w x = cond (ltb x 32) (w x) (get_or g x 0)

  pub before : (w : ℕ → ℕ) → Extends h w → (v : ℕ → ℕ) × Extends g v × Linked p at v w
  before w e = elim (ℕ_discrete (last_of p at) 0) [
    | yes z ↦ (w, (λ x f. let s : get_or h x 0 ≡ get_or g x 0 = ap (λ l. get_or l x 0) (o.same z) in e x (λ d. f (sym s ∙ d)) ∙ s), record { stays = λ y x. refl; shared = λ x j. refl })
    | no d ↦ (
      back w,
      (λ x f. elim (dec_lt x 32) [
        | yes j ↦ rw (lt-ltb x 32 j) (e x (λ z. f (sym (o.low x j) ∙ z)) ∙ o.low x j)
        | no j ↦ rw (le-ltb x 32 (omega arith))
      ]),
      record { stays = λ z. absurd (d z); shared = λ x j. rw (lt-ltb x 32 j) },
    )
  ]
