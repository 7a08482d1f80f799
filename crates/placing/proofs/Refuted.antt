-- Why targets are passed over: no values that agree with the bindings on the reasons have a way on over them.
use mathlib.Core.Bool.{true, ◌||◌, or-true}
use mathlib.Core.Path.{◌≡◌, refl, ap, sym, ◌∙◌}
use mathlib.Core.List.Memᴰ
use mathlib.Core.List.{List, ◌∷◌}
use Prim.Native.Nat.{ℕ, suc, ◌+◌, ◌-◌, ◌<◌}
use native.Mathlib.Omega.{arith}
use native.Mathlib.Decide.{dec_lt}
use lib.ListN.{get_or, get_or-eq_default}
use Rattle.bits.specs.Sets.{Has}
use Rattle.bits.proofs.Laws.{or_left, or_right}
use Rattle.task.specs.Task.{Task, goals, target_relation, source_relation, source_term, target_term, width_of, last_of, row_of, Agrees, Linked, Completes}
use Rattle.task.specs.Terms.{stood, Opened}
use Rattle.task.proofs.Slots.{stood-value, noting-new, noting-old}
use Rattle.task.proofs.Guess.{Guess, TermsAgree, guess-known}
use Rattle.lookahead.specs.Taking.{Affords, Open}
use Rattle.lookahead.specs.Failure.{AgreesOn, Failed}
use Rattle.lookahead.specs.Steps.{blaming, shorting, joining, seeing, entering, RowBarred}
use Rattle.lookahead.specs.declared.reasons.Reasons.{Reasons}
use Rattle.lookahead.specs.declared.reasons.Rows.{Rows}
use Rattle.lookahead.specs.declared.reasons.Barred.{Barred}
use Rattle.lookahead.specs.declared.reasons.Barred.TheVariants.{Short, Closed}
use Rattle.placing.proofs.Open.{open-with, open-tail}
use Rattle.placing.proofs.ReasonsCarried.{carry}

-- a way on from the source subgoal at, over the target k, that the reasons do not rule out
pub record WayOn (p : Task) (at : ℕ) (b : List ℕ) (rows : Rows) (why : Reasons) (k : ℕ) : Type 0 where
  pub v : ℕ → ℕ
  pub w : ℕ → ℕ
  pub l : List ℕ
  pub agrees_on : AgreesOn b why.slots v
  pub agrees : Agrees p v at k
  pub linked : Linked p at v w
  pub rest : Completes p (goals p - suc at) (suc at) w l
  pub allowed : Open p rows.used rows.may (k ∷ l)
  pub affords : why.short ≡ true → Affords p rows.used rows.may rows.left (k ∷ l)

-- there is none over a target before next
unfoldable pub Refuted : Task → ℕ → List ℕ → Rows → Reasons → ℕ → Type 0
Refuted p at b rows why next = (k : ℕ) → k < next → WayOn p at b rows why k → ⊥

-- the one has the other's reasons, and perhaps more
record Grows (why more : Reasons) : Type 0 where
  slots : (x : ℕ) → Has why.slots x → Has more.slots x
  short : why.short ≡ true → more.short ≡ true

module _ (p : Task) (at : ℕ) (b : List ℕ) (rows : Rows) where
  pub refuted-start : (why : Reasons) → Refuted p at b rows why 0
  unfolding Refuted
  refuted-start why k i = absurd (omega arith)

  -- one target more, and perhaps more reasons
  refuted-more : (why more : Reasons) (k : ℕ) → Grows why more → (WayOn p at b rows more k → ⊥) → Refuted p at b rows why k → Refuted p at b rows more (k + 1)
  unfolding Refuted
  refuted-more why more k i f r j l c = elim (dec_lt j k) [
    | yes o ↦ r j o (record { v = c.v; w = c.w; l = c.l; agrees_on = λ x m. c.agrees_on x (i.slots x m); agrees = c.agrees; linked = c.linked; rest = c.rest; allowed = c.allowed; affords = λ s. c.affords (i.short s) })
    | no o ↦ let e : j ≡ k = omega arith in f (rw e at c)
  ]

  pub refuted-relation : (why : Reasons) (k : ℕ) → (target_relation p k ≡ source_relation p at → ⊥) → Refuted p at b rows why k → Refuted p at b rows why (k + 1)
  refuted-relation why k f = refuted-more why why k (record { slots = λ x h. h; short = λ s. s }) (λ c. f c.agrees.relation)

  -- the row is neither in use nor to be taken, or no more rows are left
  pub refuted-row : (why : Reasons) (k : ℕ) (e : Barred) → RowBarred rows (row_of p k) e → Refuted p at b rows why k → Refuted p at b rows (shorting why e) (k + 1)
  refuted-row why k Short n = refuted-more why (shorting why Short) k (record { slots = λ x h. h; short = λ s. refl }) (λ c. n.barred (c.affords refl).0)
  refuted-row why k Closed n = refuted-more why why k (record { slots = λ x h. h; short = λ s. s }) (λ c. let e : Closed ≡ Short = n.allowed.1 (c.allowed k (Memᴰ.head refl)) in absurd (cc))

  -- what a guess bound is forced, or known by the reasons
  module _ (k a : ℕ) (g : List ℕ) (new : ℕ) (c : Guess p b at k a g new) where
    known : (slots : ℕ) (v : ℕ → ℕ) (x : ℕ) → TermsAgree p v at k a → AgreesOn b slots v → Has slots x → (get_or g x 0 ≡ 0 → ⊥) → v x ≡ get_or g x 0
    known slots v x u e h = guess-known p b at k a g new c v x u (e x h)

    bound-slot : (x : ℕ) → (get_or g x 0 ≡ 0 → ⊥) → x < 64
    bound-slot x d = elim (dec_lt x 64) [ yes i ↦ i | no i ↦ absurd (d (get_or-eq_default g 0 (omega (arith, c.long)))) ]

    -- the first unlike term
    pub refuted-unlike : (why : Reasons) → a < width_of p at → (stood g (source_term p at a) ≡ 0 → ⊥) → (stood g (source_term p at a) ≡ target_term p k a → ⊥) → Refuted p at b rows why k → Refuted p at b rows (blaming why (source_term p at a)) (k + 1)
    refuted-unlike why h n f = refuted-more why (blaming why (source_term p at a)) k (record { slots = noting-old why.slots (source_term p at a); short = λ s. s })
        (λ y. f (sym (stood-value g y.v (source_term p at a) (λ d. known (blaming why (source_term p at a)).slots y.v (source_term p at a) (λ j o. y.agrees.terms j (omega arith)) y.agrees_on (noting-new why.slots (source_term p at a) (bound-slot (source_term p at a) d)) d) n) ∙ y.agrees.terms a h))

  -- a failure below
  module _ (k : ℕ) (g h : List ℕ) (new : ℕ) (c : Guess p b at k (width_of p at) g new) (o : Opened (last_of p at) g h) (less : Reasons) (f : Failed p (suc at) h (entering rows (row_of p k)) less) where
    pub refuted-below : (why : Reasons) → Refuted p at b rows why k → Refuted p at b rows (joining why (seeing less (last_of p at))) (k + 1)
    refuted-below why = refuted-more why (joining why (seeing less (last_of p at))) k
        (record { slots = or_left why.slots (seeing less (last_of p at)).slots; short = λ s. ap (λ b. b || less.short) s })
        (λ y. f.never y.w y.l
        (carry p at g h o less y.v y.w y.linked (λ x i d. known k (width_of p at) g new c (joining why (seeing less (last_of p at))).slots y.v x y.agrees.terms y.agrees_on (or_right why.slots (seeing less (last_of p at)).slots x i) d))
        y.rest
        (open-with p rows.used rows.may (row_of p k) y.l (open-tail p rows.used rows.may k y.l y.allowed))
        (λ s. (y.affords (ap (λ b. why.short || b) s ∙ or-true why.short)).1))
