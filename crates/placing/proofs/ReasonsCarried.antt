-- From one source subgoal to the next: which reasons count, where a use may end between them.
use mathlib.Core.Path.{◌≡◌, sym, ◌∙◌}
use mathlib.Core.List.{List}
use Prim.Native.Nat.{ℕ}
use native.Mathlib.Omega.{arith}
use native.Mathlib.Decide.{ℕ_discrete, dec_lt}
use lib.ListN.{get_or}
use borrow.Author.Tests.{eq-eqb, ne_eqb}
use Rattle.bits.specs.Sets.{Has}
use Rattle.bits.proofs.Laws.{low-has}
use Rattle.task.specs.Task.{Task, last_of, Linked}
use Rattle.task.specs.Terms.{Opened}
use Rattle.task.proofs.Crossing.{through}
use Rattle.lookahead.specs.Failure.{AgreesOn}
use Rattle.lookahead.specs.Steps.{seeing}
use Rattle.lookahead.specs.declared.reasons.Reasons.{Reasons}

module _ (p : Task) (at : ℕ) (g h : List ℕ) (o : Opened (last_of p at) g h) where
  -- a reason that is bound is seen
  seen : (why : Reasons) (x : ℕ) → (get_or h x 0 ≡ 0 → ⊥) → Has why.slots x → Has (seeing why (last_of p at)).slots x
  seen why x d i = elim (ℕ_discrete (last_of p at) 0) [
    | yes z ↦ rw (eq-eqb (last_of p at) 0 z) i
    | no f ↦ rw (ne_eqb (last_of p at) 0 f) (elim (dec_lt x 32) [ yes j ↦ low-has why.slots x j i | no j ↦ absurd (d (o.high f x (omega arith))) ])
  ]

  -- what v knows of g on the reasons seen, w knows of h
  pub carry : (why : Reasons) (v w : ℕ → ℕ) → Linked p at v w → ((x : ℕ) → Has (seeing why (last_of p at)).slots x → (get_or g x 0 ≡ 0 → ⊥) → v x ≡ get_or g x 0) → AgreesOn h why.slots w
  carry why v w n f x i d =
      let t = through p at g h o v w x n d in
      t.1 ∙ f x (seen why x d i) (λ z. d (t.0 ∙ z)) ∙ sym t.0
