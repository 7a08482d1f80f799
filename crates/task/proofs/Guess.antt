-- A guess: the bindings g after the first a terms of the source subgoal i were put on those of the target k, from the bindings b on; new is the set of slots that the guess bound.
use mathlib.Core.Path.{◌≡◌, refl, sym, ◌∙◌}
use mathlib.Core.List.{List}
use Prim.Native.Nat.{ℕ, ◌+◌, ◌<◌, ◌≤◌}
use native.Mathlib.Omega.{arith}
use native.Mathlib.Decide.{ℕ_discrete}
use lib.ListN.{length, get_or, set, length-set}
use lib.Seq.{get_or-set_same, get_or-set_other}
use Rattle.bits.specs.Sets.{Has}
use Rattle.task.specs.Task.{Task, source_term, target_term, value_of, Extends}
use Rattle.task.specs.Terms.{stood, noting}
use Rattle.task.proofs.Slots.{value-slot, stood-slot, stood-none, stood-value, noting-new, noting-old}

-- under v the first n terms of the source subgoal i become those of the target k
abbrev pub TermsAgree : Task → (ℕ → ℕ) → ℕ → ℕ → ℕ → Type 0
TermsAgree p v i k n = (a : ℕ) → a < n → value_of v (source_term p i a) ≡ target_term p k a

pub record Guess (p : Task) (b : List ℕ) (i k a : ℕ) (g : List ℕ) (new : ℕ) : Type 0 where
  pub long : length g ≡ 64
  pub keeps : (x : ℕ) → (get_or b x 0 ≡ 0 → ⊥) → get_or g x 0 ≡ get_or b x 0
  pub noted : (x : ℕ) → (get_or g x 0 ≡ 0 → ⊥) → get_or b x 0 ≡ 0 → Has new x
  -- what the guess bound is so under all values that agree so far ..
  pub forced : (v : ℕ → ℕ) (x : ℕ) → TermsAgree p v i k a → (get_or g x 0 ≡ 0 → ⊥) → get_or b x 0 ≡ 0 → v x ≡ get_or g x 0
  -- .. and all values that have it agree so far
  pub fits : (v : ℕ → ℕ) → Extends g v → TermsAgree p v i k a

module _ (p : Task) (b : List ℕ) (i k : ℕ) where
  pub guess-start : length b ≡ 64 → Guess p b i k 0 b 0
  guess-start e =
      record {
        long = e;
        keeps = λ x f. refl;
        noted = λ x f z. absurd (f z);
        forced = λ v x u f z. absurd (f z);
        fits = λ v e a h. absurd (omega arith);
      }

  -- what is bound now is so under all values that agree so far and have what was bound before
  pub guess-known : (a : ℕ) (g : List ℕ) (new : ℕ) → Guess p b i k a g new → (v : ℕ → ℕ) (x : ℕ) → TermsAgree p v i k a → ((get_or b x 0 ≡ 0 → ⊥) → v x ≡ get_or b x 0) → (get_or g x 0 ≡ 0 → ⊥) → v x ≡ get_or g x 0
  guess-known a g new c v x u e f = elim (ℕ_discrete (get_or b x 0) 0) [ yes z ↦ c.forced v x u f z | no n ↦ e n ∙ sym (c.keeps x n) ]

  less : (v : ℕ → ℕ) (a : ℕ) → TermsAgree p v i k (a + 1) → TermsAgree p v i k a
  less v a u j h = u j (omega arith)

  more : (v : ℕ → ℕ) (a : ℕ) → TermsAgree p v i k a → value_of v (source_term p i a) ≡ target_term p k a → TermsAgree p v i k (a + 1)
  more v a u e j h = elim (ℕ_discrete j a) [ yes o ↦ rw o e | no n ↦ u j (omega arith) ]

  module _ (a : ℕ) (g : List ℕ) (new : ℕ) (c : Guess p b i k a g new) where
    -- a term that stands for the target's binds nothing
    pub guess-same : (stood g (source_term p i a) ≡ 0 → ⊥) → stood g (source_term p i a) ≡ target_term p k a → Guess p b i k (a + 1) g new
    guess-same n f =
        record {
          long = c.long;
          keeps = c.keeps;
          noted = c.noted;
          forced = λ v x u. c.forced v x (less v a u);
          fits = λ v e. more v a (c.fits v e) (stood-value g v (source_term p i a) (e (source_term p i a)) n ∙ f);
        }

    -- a slot that is not bound gets the target's term
    module _ (free : stood g (source_term p i a) ≡ 0) (solid : target_term p k a ≡ 0 → ⊥) where
      slot : source_term p i a < 64
      slot = stood-none g (source_term p i a) free

      unbound : get_or g (source_term p i a) 0 ≡ 0
      unbound = sym (stood-slot g (source_term p i a) slot) ∙ free

      here : get_or (set g (source_term p i a) (target_term p k a)) (source_term p i a) 0 ≡ target_term p k a
      here = get_or-set_same g (source_term p i a) (target_term p k a) 0 (omega (arith, c.long, slot))

      other : (y : ℕ) → (y ≡ source_term p i a → ⊥) → get_or (set g (source_term p i a) (target_term p k a)) y 0 ≡ get_or g y 0
      other y f = get_or-set_other g (source_term p i a) y (target_term p k a) 0 f

      pub guess-new : Guess p b i k (a + 1) (set g (source_term p i a) (target_term p k a)) (noting new (source_term p i a))
      guess-new =
          record {
            long = simp length-set c.long;
            keeps = λ y f. other y (λ e. f (sym (c.keeps y f) ∙ rw e unbound)) ∙ c.keeps y f;
            noted = λ y f e. elim (ℕ_discrete y (source_term p i a)) [
              | yes o ↦ rw o (noting-new new (source_term p i a) slot)
              | no n ↦ noting-old new (source_term p i a) y (c.noted y (λ j. f (other y n ∙ j)) e)
            ];
            forced = λ v y u f e. elim (ℕ_discrete y (source_term p i a)) [
              | yes o ↦ rw o (sym (value-slot v (source_term p i a) slot) ∙ u a (omega arith) ∙ sym here)
              | no n ↦ c.forced v y (less v a u) (λ j. f (other y n ∙ j)) e ∙ sym (other y n)
            ];
            fits = λ v e. more v a
                (c.fits v (λ y f. let n : y ≡ source_term p i a → ⊥ = λ o. f (rw o unbound) in e y (λ j. f (sym (other y n) ∙ j)) ∙ other y n))
                (value-slot v (source_term p i a) slot ∙ e (source_term p i a) (λ j. solid (sym here ∙ j)) ∙ here);
          }

pub guess-full : (p : Task) (b : List ℕ) (i k a : ℕ) (g : List ℕ) (new n : ℕ) → a ≤ n → n ≤ a → Guess p b i k a g new → Guess p b i k n g new
guess-full p b i k a g new n h j c = let e : n ≡ a = omega arith in rw e c
