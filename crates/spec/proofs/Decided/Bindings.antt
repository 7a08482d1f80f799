-- Values for variables, made as subgoals are placed on facts.
use mathlib.Core.Path.{◌≡◌, refl, sym, ◌∙◌}
use mathlib.Core.Bool.{Bool, true, false, cond}
use mathlib.Core.Option.{Option, some, none, some-ne-none}
use Rattle.spec.proofs.Lists.Tests.{passes, fails}
use Rattle.spec.proofs.Decided.Equal.{Eq, eq_test}

-- The newest first.
pub data Bindings (X A : Type 0) : Type 0 where
  unbound : Bindings X A
  bind : X → A → Bindings X A → Bindings X A

-- These values have those of the bindings.
abbrev pub Keeps : {X A : Type 0} → (X → A) → Bindings X A → Type 0
Keeps σ unbound = Unit {0}
Keeps σ (bind x v b) = (σ x ≡ v) × Keeps σ b

abbrev pub or_else : {A : Type 0} → A → Option A → A
or_else a none = a
or_else a (some v) = v

module _ {X A : Type 0} (e_x : Eq X) where
  abbrev pub bound : X → Bindings X A → Option A
  bound x unbound = none
  bound x (bind y v b) = cond (e_x.test y x) (some v) (bound x b)

  -- the values, and another for each variable that has none
  abbrev pub valued : A → Bindings X A → X → A
  valued a b x = or_else a (bound x b)

  pub kept-value : (σ : X → A) (x : X) (v : A) (b : Bindings X A) → Keeps σ b → bound x b ≡ some v → σ x ≡ v
  kept-value σ x v unbound h e = cc
  kept-value σ x v (bind y w b) h e = go (kept-value σ x v b h.1) (e_x.test y x) refl e
    where
      go : (bound x b ≡ some v → σ x ≡ v) → (t : Bool) → e_x.test y x ≡ t → cond t (some w) (bound x b) ≡ some v → σ x ≡ v
      go rest true p q = cc (e_x.sound y x (passes p), h.0)
      go rest false p q = rest q

  -- other values, but for a variable that is not bound
  pub still_kept : (σ τ : X → A) (x : X) → ((y : X) → e_x.test x y ≡ false → τ y ≡ σ y) → (b : Bindings X A) → bound x b ≡ none → Keeps σ b → Keeps τ b
  still_kept σ τ x a unbound e h = tt
  still_kept σ τ x a (bind y w b) e h = go (λ q. still_kept σ τ x a b q h.1) (e_x.test y x) refl (e_x.test x y) refl e
    where
      go : (bound x b ≡ none → Keeps τ b) → (t : Bool) → e_x.test y x ≡ t → (u : Bool) → e_x.test x y ≡ u → cond t (some w) (bound x b) ≡ none → (τ y ≡ w) × Keeps τ b
      go rest true p u p' q = absurd (some-ne-none w q)
      go rest false p true p' q = absurd (fails p (eq_test e_x y x (sym (e_x.sound x y (passes p')))))
      go rest false p false p' q = (a y p' ∙ h.0, rest q)
