-- The bindings that fix the first places: which values extend them.
use mathlib.Core.Path.{◌≡◌, sym, ◌∙◌}
use mathlib.Core.List.{List}
use Prim.Native.Nat.{ℕ, zero, suc, ◌+◌, ◌*◌, ◌<◌}
use native.Mathlib.Omega.{arith}
use native.Mathlib.Decide.{ℕ_discrete, dec_lt}
use lib.ListN.{length, get_or, set, length-set, length-replicate}
use lib.Seq.{get_or-set_same, get_or-set_other}
use Rattle.task.specs.Task.{Task, source_relation, target_relation, width_of, value_of, Agrees, Extends}
use Rattle.task.proofs.Slots.{value-slot}
use Rattle.summary_rows.specs.RowPlaces.{head_term, HeadTask, OnTargets}
use Rattle.summary_rows.specs.FixedPlaces.{fixing}
use Rattle.spec.proofs.Lists.Zeros.{zero-at}

-- One more slot bound: the values that extend the bindings with it are those that extend the bindings and give the slot that code.
set-extends : (g : List ℕ) → length g ≡ 64 → (x y : ℕ) → x < 64 → (v : ℕ → ℕ) → Extends g v → value_of v x ≡ y → Extends (set g x y) v
set-extends g long x y low v e a z n = elim (ℕ_discrete z x) [
  | yes o ↦ rw o (sym (value-slot v x low) ∙ a ∙ sym (get_or-set_same g x y 0 (omega arith)))
  | no o ↦ e z (λ u. n (get_or-set_other g x z y 0 o ∙ u)) ∙ sym (get_or-set_other g x z y 0 o)
]

-- A source subgoal of one term.
module _ (p : Task) (i k : ℕ) (single : width_of p i ≡ 1) (v : ℕ → ℕ) where
  pub only-term : Agrees p v i k → value_of v (get_or p.source (9 * i + 1) 0) ≡ get_or p.target (9 * k + 1) 0
  only-term a =
      let s : 9 * i + 1 + 0 ≡ 9 * i + 1 = omega arith in
      let t : 9 * k + 1 + 0 ≡ 9 * k + 1 = omega arith in
      rw (s, t) at (a.terms 0 (omega (arith, single)))

  pub term-only : target_relation p k ≡ source_relation p i → value_of v (get_or p.source (9 * i + 1) 0) ≡ get_or p.target (9 * k + 1) 0 → Agrees p v i k
  term-only same e = record {
    relation = same;
    terms = λ b h. (
        let z : b ≡ 0 = omega (arith, single) in
        let s : 9 * i + 1 + 0 ≡ 9 * i + 1 = omega arith in
        let t : 9 * k + 1 + 0 ≡ 9 * k + 1 = omega arith in
        rw (z, s, t) e);
  }

-- under v the first j source subgoals become the targets ks
abbrev pub AgreeTo : Task → ℕ → List ℕ → (ℕ → ℕ) → Type 0
AgreeTo p j ks v = (i : ℕ) → i < j → Agrees p v i (get_or ks i 0)

module _ (p : Task) (ks : List ℕ) where
  abbrev fixed : ℕ → List ℕ
  fixed j = fixing p.source p.target ks j

  abbrev term_of : ℕ → ℕ
  term_of j = get_or p.source (9 * j + 1) 0

  abbrev code_of : ℕ → ℕ
  code_of j = get_or p.target (9 * get_or ks j 0 + 1) 0

  fixing-long : (j : ℕ) → length (fixed j) ≡ 64
  unfolding fixing
  fixing-long zero = length-replicate {A = ℕ} 64 0
  fixing-long (suc j) = length-set (fixed j) (term_of j) (code_of j) ∙ fixing-long j

  pub fixing-forced : (j : ℕ) → ((i : ℕ) → i < j → width_of p i ≡ 1) → ((i : ℕ) → i < j → head_term p i < 64) → (v : ℕ → ℕ) → AgreeTo p j ks v → Extends (fixing p.source p.target ks j) v
  unfolding fixing
  fixing-forced zero single slots v a = λ x n. absurd (n (zero-at 64 x))
  fixing-forced (suc j) single slots v a =
      set-extends (fixed j) (fixing-long j) (term_of j) (code_of j) (slots j (omega arith)) v
      (fixing-forced j (λ i h. single i (omega arith)) (λ i h. slots i (omega arith)) v (λ i h. a i (omega arith))) (only-term p j (get_or ks j 0) (single j (omega arith)) v (a j (omega arith)))

  -- each place's slot has its target's code, since no two have one slot
  fixing-code : (j : ℕ) → ((i : ℕ) → i < j → head_term p i < 64) → ((i k : ℕ) → i < k → k < j → head_term p i ≡ head_term p k → ⊥) → (i : ℕ) → i < j → get_or (fixed j) (term_of i) 0 ≡ code_of i
  unfolding fixing
  fixing-code zero slots apart i l = absurd (omega arith)
  fixing-code (suc j) slots apart i l = go (dec_lt i j) (fixing-code j (λ a b. slots a (omega arith)) (λ a k b c. apart a k b (omega arith)) i)
    where
      go : Dec (i < j) → (i < j → get_or (fixed j) (term_of i) 0 ≡ code_of i) → get_or (set (fixed j) (term_of j) (code_of j)) (term_of i) 0 ≡ code_of i
      go (yes o) before = get_or-set_other (fixed j) (term_of j) (term_of i) (code_of j) 0 (apart i j o (omega arith)) ∙ before o
      go (no o) before = let q : i ≡ j = omega arith in rw q (get_or-set_same (fixed j) (term_of j) (code_of j) 0 (omega (arith, slots j (omega arith), fixing-long j)))

-- The bindings put the first places of a head on targets of the head's relation.
module _ (p : Task) (h : ℕ) (ready : HeadTask p h) (j : ℕ) (ks : List ℕ) (on : OnTargets p h j ks) where
  pub fixing-fits : (v : ℕ → ℕ) → Extends (fixing p.source p.target ks j) v → AgreeTo p j ks v
  fixing-fits v e i l = term-only p i (get_or ks i 0) (ready.single i below) v (on.relation i l) (value-slot v (head_term p i) slot ∙ e (head_term p i) (λ z. solid (sym code ∙ z)) ∙ code)
    where
      below : i < h
      below = omega (arith, on.few)

      slot : head_term p i < 64
      slot = ready.slots i below

      code : get_or (fixing p.source p.target ks j) (head_term p i) 0 ≡ get_or p.target (9 * get_or ks i 0 + 1) 0
      code = fixing-code p ks j (λ a b. ready.slots a (omega (arith, on.few))) (λ a k b c. ready.apart a k b (omega (arith, on.few))) i l

      solid : get_or p.target (9 * get_or ks i 0 + 1) 0 ≡ 0 → ⊥
      solid z =
          let t : 9 * get_or ks i 0 + 1 + 0 ≡ 9 * get_or ks i 0 + 1 = omega arith in
          ready.sized.solid (get_or ks i 0) 0 (on.within i l) (omega arith) (rw t z)
