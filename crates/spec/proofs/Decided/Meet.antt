-- A term meets a value, a subgoal meets a fact: what the bindings become, or none.
-- Over any values A with a test for equality and any k, what constants become: terms (k = con) and numbers (k = itself) alike.
use mathlib.Core.Path.{◌≡◌, refl, sym, ap, ap₂, ◌∙◌, subst}
use mathlib.Core.Bool.{true, false, cond}
use mathlib.Core.Option.{Option, some, none, some-injective}
use mathlib.Core.List.{List, [], ◌∷◌, map, nil≢cons, cons≢nil, head-eq_of_cons-eq, tail-eq_of_cons-eq}
use Prim.Native.Nat.{ℕ}
use lib.Dec.{eqb}
use Rattle.spec.specs.Words.{Term, var, con, Subgoal, becomes, each}
use Rattle.spec.proofs.Lists.Tests.{passed}
use Rattle.spec.proofs.Decided.Equal.{Eq, eq_test, eq_number}
use Rattle.spec.proofs.Decided.Bindings.{Bindings, bind, Keeps, or_else, bound, valued, kept-value, still_kept}
use Rattle.spec.proofs.Decided.Exact.{next, provided, Fine, Exact, exact-test, exact-next}

module _ {X A : Type 0} (e_x : Eq X) (e_a : Eq A) (k : ℕ → A) where
  abbrev if_same : Option A → A → Bindings X A → Bindings X A → Option (Bindings X A)
  if_same none v b c = some c
  if_same (some w) v b c = provided (e_a.test w v) b

  abbrev pub meet : Term X → A → Bindings X A → Option (Bindings X A)
  meet (var x) v b = if_same (bound e_x x b) v b (bind x v b)
  meet (con c) v b = provided (e_a.test (k c) v) b

  abbrev pub meet_all : List (Term X) → List A → Bindings X A → Option (Bindings X A)
  meet_all [] [] b = some b
  meet_all [] (v ∷ vs) b = none
  meet_all (t ∷ ts) [] b = none
  meet_all (t ∷ ts) (v ∷ vs) b = next (meet t v b) (meet_all ts vs)

  abbrev pub meet_fact : Subgoal (Term X) → Subgoal A → Bindings X A → Option (Bindings X A)
  meet_fact g f b = next (provided (eqb g.relation f.relation) b) (meet_all g.terms f.terms)

  exact-var : (x : X) (v : A) → Exact e_x (k 0) (λ σ. σ x ≡ v) (meet (var x) v)
  exact-var x v = record { fine = λ b c e f. fine' b c f (bound e_x x b) refl e; back = λ b c e σ h. back' b c σ h (bound e_x x b) refl e; forth = λ b σ h p. forth' b σ h p (bound e_x x b) refl }
    where
      passing : (w : A) → Exact e_x (k 0) (λ σ. w ≡ v) (provided (e_a.test w v))
      passing w = exact-test e_x (k 0) (λ σ. w ≡ v) (e_a.test w v) (λ t σ. e_a.sound w v t) (λ σ. eq_test e_a w v)

      fine' : (b c : Bindings X A) → Fine e_x (k 0) b → (o : Option A) → bound e_x x b ≡ o → if_same o v b (bind x v b) ≡ some c → Fine e_x (k 0) c
      fine' b c f none n e = subst (Fine e_x (k 0)) (some-injective (bind x v b) c e)
          (ap (λ t. or_else (k 0) (cond t (some v) (bound e_x x b))) (passed (e_x.test x x) (e_x.same x)), still_kept e_x (valued e_x (k 0) b) (valued e_x (k 0) (bind x v b)) x (λ y p. ap (λ t. or_else (k 0) (cond t (some v) (bound e_x y b))) p) b n f)
      fine' b c f (some w) n e = (passing w).fine b c e f

      back' : (b c : Bindings X A) (σ : X → A) → Keeps σ c → (o : Option A) → bound e_x x b ≡ o → if_same o v b (bind x v b) ≡ some c → Keeps σ b × (σ x ≡ v)
      back' b c σ h none n e = let kept = subst (Keeps σ) (sym (some-injective (bind x v b) c e)) h in (kept.1, kept.0)
      back' b c σ h (some w) n e = let kept = (passing w).back b c e σ h in (kept.0, kept-value e_x σ x w b kept.0 n ∙ kept.1)

      forth' : (b : Bindings X A) (σ : X → A) → Keeps σ b → σ x ≡ v → (o : Option A) → bound e_x x b ≡ o → (c : Bindings X A) × (if_same o v b (bind x v b) ≡ some c) × Keeps σ c
      forth' b σ h p none n = (bind x v b, refl, (p, h))
      forth' b σ h p (some w) n = (passing w).forth b σ h (sym (kept-value e_x σ x w b h n) ∙ p)

  exact-meet : (t : Term X) (v : A) → Exact e_x (k 0) (λ σ. becomes k σ t ≡ v) (meet t v)
  exact-meet (var x) v = exact-var x v
  exact-meet (con c) v = exact-test e_x (k 0) (λ σ. k c ≡ v) (e_a.test (k c) v) (λ t σ. e_a.sound (k c) v t) (λ σ. eq_test e_a (k c) v)

  pub exact-all : (ts : List (Term X)) (vs : List A) → Exact e_x (k 0) (λ σ. map (becomes k σ) ts ≡ vs) (meet_all ts vs)
  exact-all [] [] = exact-test e_x (k 0) (λ σ. ◌≡◌ {A = List A} [] []) true (λ t σ. refl) (λ σ p. tt)
  exact-all [] (v ∷ vs) = exact-test e_x (k 0) (λ σ. ◌≡◌ {A = List A} [] (v ∷ vs)) false (λ t. absurd t) (λ σ p. nil≢cons p)
  exact-all (t ∷ ts) [] = exact-test e_x (k 0) (λ σ. ◌≡◌ {A = List A} (becomes k σ t ∷ map (becomes k σ) ts) []) false (λ t. absurd t) (λ σ p. cons≢nil p)
  exact-all (t ∷ ts) (v ∷ vs) = exact-next e_x (k 0) (λ σ. becomes k σ t ≡ v) (λ σ. map (becomes k σ) ts ≡ vs) (λ σ. map (becomes k σ) (t ∷ ts) ≡ v ∷ vs) (meet t v) (meet_all ts vs) (exact-meet t v) (exact-all ts vs)
      (λ σ p q. ap₂ ◌∷◌ p q) (λ σ r. (head-eq_of_cons-eq r, tail-eq_of_cons-eq r))

  pub exact-fact : (g : Subgoal (Term X)) (f : Subgoal A) → Exact e_x (k 0) (λ σ. each (becomes k σ) g ≡ f) (meet_fact g f)
  exact-fact g f = exact-next e_x (k 0) (λ σ. g.relation ≡ f.relation) (λ σ. map (becomes k σ) g.terms ≡ f.terms) (λ σ. each (becomes k σ) g ≡ f)
      (provided (eqb g.relation f.relation)) (meet_all g.terms f.terms)
      (exact-test e_x (k 0) (λ σ. g.relation ≡ f.relation) (eqb g.relation f.relation) (λ t σ. eq_number.sound g.relation f.relation t) (λ σ. eq_test eq_number g.relation f.relation))
      (exact-all g.terms f.terms)
      (λ σ p q i. record { relation = p i; terms = q i })
      (λ σ r. (ap (λ h. h.relation) r, ap (λ h. h.terms) r))
