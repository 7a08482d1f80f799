-- The condition on a use of a summary: its head becomes the given terms. Over heads of distinct variables, each subgoal as long as the head meets it.
use mathlib.Core.Path.{◌≡◌, refl, sym, ap, ap₂, ◌∙◌, subst}
use mathlib.Core.Logic.{◌⊎◌, inl, inr}
use mathlib.Core.Bool.{Bool, true, false, cond}
use mathlib.Core.Option.{some}
use mathlib.Core.List.Memᴰ
use mathlib.Core.List.{List, [], ◌∷◌, map}
use Prim.Native.Nat.{ℕ}
use native.Mathlib.Omega.{arith}
use lib.Dec.{eqb}
use lib.ListN.{length, length-map}
use borrow.Author.Tests.{eqb-true, eqb-false, ne_eqb, eq-eqb}
use Rattle.spec.specs.Words.{◌∈◌, Term, var, con, Subgoal, Rule, DistinctVariables, Facts, becomes, Yields}
use Rattle.spec.specs.Summaries.{Summaries, summary, or_empty, definition, Yielded, Own, fresh, replaced, kept, in_use, Over}
use Rattle.spec.proofs.Lists.Gathered.{map_same, map-itself}
use Rattle.containment.proofs.Carry.{terms-after}
use Rattle.containment.proofs.Held.{Every, yielded-more}

abbrev pub Anything : {A : Type 0} → Facts A
Anything f = Unit {0}

-- The condition on a use: where the summary's variables are sent to terms, its head becomes the given terms.
abbrev pub Suits : {X : Type 0} → Summaries → Subgoal (Term X) → Type 0
Suits s g = Yielded con s Anything g

abbrev pub SuitAll : {X : Type 0} → Summaries → Rule X → Type 0
SuitAll {X} s r = (g : Subgoal (Term X)) → g ∈ r.body → Suits s g

pub its-rule : (s : Summaries) (n : ℕ) {r : Rule ℕ} → summary s n ≡ some r → summary s n ≡ some (definition s n)
its-rule s n e = e ∙ ap some (sym (ap or_empty e))

pub its-yield : {A : Type 0} {k : ℕ → A} (s : Summaries) {d : Facts A} (f : Subgoal A) → Yielded k s d f → Yields k (definition s f.relation) d f.terms
its-yield {A} {k} s {d} f y = subst (λ r. Yields k r d f.terms) (sym (ap or_empty y.admitted)) y.yields

pub terms-agree : {A X : Type 0} (k : ℕ → A) (f g : X → A) (ts : List (Term X)) → ((x : X) → var x ∈ ts → f x ≡ g x) → map (becomes k f) ts ≡ map (becomes k g) ts
terms-agree {A} {X} k f g ts same = map_same (becomes k f) (becomes k g) ts at
  where
    at : (t : Term X) → t ∈ ts → becomes k f t ≡ becomes k g t
    at (var x) m = same x m
    at (con c) m = refl

-- What stands for a variable of the head becomes its value; so does what stands for another, if `other` does.
module _ {A B : Type 0} (h : B → A) (k v : ℕ → A) where
  pub replaced-is : (ss : List (Term ℕ)) (ts : List B) (other : ℕ → B) → map (becomes k v) ss ≡ map h ts → (x : ℕ) → (var x ∈ ss) ⊎ (h (other x) ≡ v x) → h (replaced ss ts other x) ≡ v x
  replaced-is [] ts other e x (inl m) = absurd (Memᴰ.not-nil m)
  replaced-is [] ts other e x (inr p) = p
  replaced-is (s ∷ ss) [] other e x p = cc
  replaced-is (con c ∷ ss) (t ∷ ts) other e x p = replaced-is ss ts other (cc) x (past p)
    where
      past : (var x ∈ (con c ∷ ss)) ⊎ (h (other x) ≡ v x) → (var x ∈ ss) ⊎ (h (other x) ≡ v x)
      past (inl (Memᴰ.head q)) = let z : ◌≡◌ {A = ℕ} 0 1 = cc in absurd (omega arith)
      past (inl (Memᴰ.tail m)) = inl m
      past (inr q) = inr q
  replaced-is (var y ∷ ss) (t ∷ ts) other e x p = go (eqb y x) refl (replaced-is ss ts other (cc) x) p
    where
      go : (b : Bool) → eqb y x ≡ b → ((var x ∈ ss) ⊎ (h (other x) ≡ v x) → h (replaced ss ts other x) ≡ v x)
          → (var x ∈ (var y ∷ ss)) ⊎ (h (other x) ≡ v x) → h (cond b t (replaced ss ts other x)) ≡ v x
      go true q ih p = cc (eqb-true y x q)
      go false q ih (inl (Memᴰ.head i)) = absurd (eqb-false y x q (cc))
      go false q ih (inl (Memᴰ.tail m)) = ih (inl m)
      go false q ih (inr i) = ih (inr i)

-- The summary's head becomes the given terms.
pub head-becomes : {X : Type 0} (s : Summaries) (u : ℕ) (g : Subgoal (Term X)) → Suits s g → map (becomes con (in_use s u g)) (definition s g.relation).head ≡ map (becomes con kept) g.terms
head-becomes {X} s u g suits = terms-agree con (in_use s u g) v head same ∙ given
  where
    w : Yields con (definition s g.relation) Anything g.terms
    w = its-yield s g suits

    head : List (Term ℕ)
    head = (definition s g.relation).head

    v : ℕ → Term (Own X)
    v x = becomes con kept (w.value x)

    given : map (becomes con v) head ≡ map (becomes con kept) g.terms
    given = sym (terms-after con w.value kept head) ∙ ap (map (becomes con kept)) w.gives

    same : (x : ℕ) → var x ∈ head → in_use s u g x ≡ v x
    same x m = replaced-is (λ t. t) con v head (map (becomes con kept) g.terms) (λ x. var (fresh u x)) (given ∙ sym (map-itself (map (becomes con kept) g.terms))) x (inl m)

-- Whatever a summary yields over terms suits it, a summary row too.
pub row-suits : {X : Type 0} {s : Summaries} {d : Facts (Term X)} (g : Subgoal (Term X)) → Yielded con s d g → Suits s g
row-suits g y = yielded-more (λ f m. tt) g y

-- "A summary is a rule whose head is distinct variables."
abbrev pub DistinctHeads : Summaries → Type 0
DistinctHeads s = Every s (λ r. DistinctVariables r.head)

pub distinct-becomes : {A : Type 0} (k : ℕ → A) (ss : List (Term ℕ)) (ts : List A) (other : ℕ → A) → DistinctVariables ss → length ts ≡ length ss → map (becomes k (replaced ss ts other)) ss ≡ ts
distinct-becomes k [] [] other d long = refl
distinct-becomes k [] (t ∷ ts) other d long = let z : ⊥ = omega arith in absurd z
distinct-becomes k (s ∷ ss) [] other d long = let z : ⊥ = omega arith in absurd z
distinct-becomes k (con c ∷ ss) (t ∷ ts) other d long = absurd d
distinct-becomes k (var y ∷ ss) (t ∷ ts) other d long =
    ap₂ ◌∷◌ (ap (λ b. cond b t (replaced ss ts other y)) (eq-eqb y y refl))
    (terms-agree k (replaced (var y ∷ ss) (t ∷ ts) other) (replaced ss ts other) ss (λ x m. ap (λ b. cond b t (replaced ss ts other x)) (ne_eqb y x (λ e. d.0 (rw e m)))) ∙ distinct-becomes k ss ts other d.1 (omega arith))

-- And what suits is as long as the head.
pub suits-over : {X : Type 0} (s : Summaries) (g : Subgoal (Term X)) → Suits s g → Over s g
suits-over s g suits = record { rule = suits.rule; admitted = suits.admitted; long = sym (ap length suits.yields.gives) ∙ length-map suits.rule.head (becomes con suits.yields.value) }
