-- Steps that bindings take, and which values keep what comes of them.
use mathlib.Core.Path.{◌≡◌, refl, sym, ap, ◌∙◌, subst}
use mathlib.Core.Bool.{Bool, true, false, cond}
use mathlib.Core.Option.{Option, some, none, none-ne-some, some-injective}
use lib.Dec.{T}
use Rattle.spec.proofs.Decided.Equal.{Eq}
use Rattle.spec.proofs.Decided.Bindings.{Bindings, Keeps, valued}

abbrev pub next : {A B : Type 0} → Option A → (A → Option B) → Option B
next none f = none
next (some a) f = f a

abbrev pub provided : {A : Type 0} → Bool → A → Option A
provided t a = cond t (some a) none

module _ {X A : Type 0} (e_x : Eq X) (a : A) where
  -- no variable has two values
  abbrev pub Fine : Bindings X A → Type 0
  Fine b = Keeps (valued e_x a b) b

  -- A step is exact for P if the values that keep its result are those that keep what it began with and have P.
  pub record Exact (P : (X → A) → Type 0) (step : Bindings X A → Option (Bindings X A)) : Type 0 where
    pub fine : (b c : Bindings X A) → step b ≡ some c → Fine b → Fine c
    pub back : (b c : Bindings X A) → step b ≡ some c → (σ : X → A) → Keeps σ c → Keeps σ b × P σ
    pub forth : (b : Bindings X A) (σ : X → A) → Keeps σ b → P σ → (c : Bindings X A) × (step b ≡ some c) × Keeps σ c

  -- a test that no values bear on
  pub exact-test : (P : (X → A) → Type 0) (t : Bool) → (T t → (σ : X → A) → P σ) → ((σ : X → A) → P σ → T t) → Exact P (provided t)
  exact-test P true s c = record {
    fine = λ b c e f. subst Fine (some-injective b c e) f;
    back = λ b c e σ h. (subst (Keeps σ) (sym (some-injective b c e)) h, s tt σ);
    forth = λ b σ h p. (b, refl, h);
  }
  exact-test P false s c = record { fine = λ b c e f. absurd (none-ne-some c e); back = λ b c e. absurd (none-ne-some c e); forth = λ b σ h p. absurd (c σ p) }

  -- one step, then another
  pub exact-next : (P Q R : (X → A) → Type 0) (f g : Bindings X A → Option (Bindings X A)) → Exact P f → Exact Q g
      → ((σ : X → A) → P σ → Q σ → R σ) → ((σ : X → A) → R σ → P σ × Q σ) → Exact R (λ b. next (f b) g)
  exact-next P Q R f g p q join part = record { fine = λ b c e h. fine' b c h (f b) refl e; back = λ b c e σ h. back' b c σ h (f b) refl e; forth = forth' }
    where
      fine' : (b c : Bindings X A) → Fine b → (o : Option (Bindings X A)) → f b ≡ o → next o g ≡ some c → Fine c
      fine' b c h none n e = absurd (none-ne-some c e)
      fine' b c h (some d) n e = q.fine d c e (p.fine b d n h)

      back' : (b c : Bindings X A) (σ : X → A) → Keeps σ c → (o : Option (Bindings X A)) → f b ≡ o → next o g ≡ some c → Keeps σ b × R σ
      back' b c σ h none n e = absurd (none-ne-some c e)
      back' b c σ h (some d) n e =
          let second = q.back d c e σ h in
          let first = p.back b d n σ second.0 in
          (first.0, join σ first.1 second.1)

      forth' : (b : Bindings X A) (σ : X → A) → Keeps σ b → R σ → (c : Bindings X A) × (next (f b) g ≡ some c) × Keeps σ c
      forth' b σ h r =
          let first = p.forth b σ h (part σ r).0 in
          let second = q.forth first.0 σ first.2 (part σ r).1 in
          (second.0, ap (λ o. next o g) first.1 ∙ second.1, second.2)
