-- All ways to place subgoals on facts, one after the other, in the order of the facts.
use mathlib.Core.Path.{◌≡◌, refl, sym, ap₂, subst}
use mathlib.Core.Option.{some}
use mathlib.Core.List.Memᴰ
use mathlib.Core.List.{List, [], ◌∷◌, map, cons≢nil, nil≢cons, head-eq_of_cons-eq, tail-eq_of_cons-eq}
use Prim.Native.Nat.{ℕ}
use Rattle.spec.specs.Words.{◌∈◌, Term, Subgoal, becomes, each}
use Rattle.spec.proofs.Decided.Equal.{Eq}
use Rattle.spec.proofs.Lists.Gathered.{gather, gather-in, gather-out, from, from_out}
use Rattle.spec.proofs.Decided.Bindings.{Bindings, Keeps}
use Rattle.spec.proofs.Decided.Exact.{Fine, Exact}
use Rattle.spec.proofs.Decided.Meet.{meet_fact, exact-fact}

-- A fact, and the bytes that name its place.
pub record Target (A : Type 0) : Type 0 where
  pub bytes : List ℕ
  pub fact : Subgoal A

-- A way to place subgoals: the target of each, and what the variables became.
pub record Placing (X A : Type 0) : Type 0 where
  pub targets : List (Target A)
  pub bindings : Bindings X A

abbrev pub placed : {X A : Type 0} → Target A → Placing X A → Placing X A
placed t p = record { targets = t ∷ p.targets; bindings = p.bindings }

module _ {X A : Type 0} (e_x : Eq X) (e_a : Eq A) (k : ℕ → A) (ts : List (Target A)) where
  abbrev pub placings : List (Subgoal (Term X)) → Bindings X A → List (Placing X A)
  placings [] b = record { targets = []; bindings = b } ∷ []
  placings (g ∷ gs) b = gather (λ t. from (λ c. map (placed t) (placings gs c)) (meet_fact e_x e_a k g t.fact b)) ts

  -- what each of them is
  pub record PlacedOn (gs : List (Subgoal (Term X))) (b : Bindings X A) (p : Placing X A) : Type 0 where
    pub inside : (t : Target A) → t ∈ p.targets → t ∈ ts
    pub fine : Fine e_x (k 0) b → Fine e_x (k 0) p.bindings
    pub back : (σ : X → A) → Keeps σ p.bindings → Keeps σ b × (map (each (becomes k σ)) gs ≡ map (λ t. t.fact) p.targets)

  pub placings-sound : (gs : List (Subgoal (Term X))) (b : Bindings X A) (p : Placing X A) → p ∈ placings gs b → PlacedOn gs b p
  placings-sound [] b p m = subst (PlacedOn [] b) (sym (Memᴰ.eq_of_singleton m)) record { inside = λ t i. absurd (Memᴰ.not-nil i); fine = λ f. f; back = λ σ h. (h, refl) }
  placings-sound (g ∷ gs) b p m = go (λ c. placings-sound gs c) (gather-out (λ t. from (λ c. map (placed t) (placings gs c)) (meet_fact e_x e_a k g t.fact b)) ts m)
    where
      go : ((c : Bindings X A) (r : Placing X A) → r ∈ placings gs c → PlacedOn gs c r)
          → (t : Target A) × (t ∈ ts) × (p ∈ from (λ c. map (placed t) (placings gs c)) (meet_fact e_x e_a k g t.fact b)) → PlacedOn (g ∷ gs) b p
      go rest w = subst (PlacedOn (g ∷ gs) b) v.2 record { inside = inside'; fine = λ f. r.fine (x.fine b c u.1 f); back = back' }
        where
          t : Target A
          t = w.0

          u : (c : Bindings X A) × (meet_fact e_x e_a k g t.fact b ≡ some c) × (p ∈ map (placed t) (placings gs c))
          u = from_out (λ c. map (placed t) (placings gs c)) (meet_fact e_x e_a k g t.fact b) w.2

          c : Bindings X A
          c = u.0

          v : (r : Placing X A) × (r ∈ placings gs c) × (placed t r ≡ p)
          v = Memᴰ.of_map (placed t) (placings gs c) u.2

          r : PlacedOn gs c v.0
          r = rest c v.0 v.1

          x : Exact e_x (k 0) (λ σ. each (becomes k σ) g ≡ t.fact) (meet_fact e_x e_a k g t.fact)
          x = exact-fact e_x e_a k g t.fact

          inside' : (s : Target A) → s ∈ (t ∷ v.0.targets) → s ∈ ts
          inside' s (Memᴰ.head e) = Memᴰ.cast e w.1
          inside' s (Memᴰ.tail i) = r.inside s i

          back' : (σ : X → A) → Keeps σ v.0.bindings → Keeps σ b × (map (each (becomes k σ)) (g ∷ gs) ≡ map (λ t. t.fact) (t ∷ v.0.targets))
          back' σ h = let later = r.back σ h in let now = x.back b c u.1 σ later.0 in (now.0, ap₂ ◌∷◌ now.1 later.1)

  -- and that each way is among them
  pub record Among (gs : List (Subgoal (Term X))) (b : Bindings X A) (us : List (Target A)) (σ : X → A) : Type 0 where
    pub bindings : Bindings X A
    pub among : record { targets = us; bindings = bindings } ∈ placings gs b
    pub keeps : Keeps σ bindings

  pub placings-complete : (gs : List (Subgoal (Term X))) (b : Bindings X A) (us : List (Target A)) (σ : X → A)
      → ((t : Target A) → t ∈ us → t ∈ ts) → Keeps σ b → map (each (becomes k σ)) gs ≡ map (λ t. t.fact) us → Among gs b us σ
  placings-complete [] b [] σ i h e = record { bindings = b; among = Memᴰ.head refl; keeps = h }
  placings-complete [] b (u ∷ us) σ i h e = absurd (nil≢cons e)
  placings-complete (g ∷ gs) b [] σ i h e = absurd (cons≢nil e)
  placings-complete (g ∷ gs) b (u ∷ us) σ i h e = go ((exact-fact e_x e_a k g u.fact).forth b σ h (head-eq_of_cons-eq e)) (λ c h'. placings-complete gs c us σ (λ t m. i t (Memᴰ.tail m)) h' (tail-eq_of_cons-eq e))
    where
      go : (c : Bindings X A) × (meet_fact e_x e_a k g u.fact b ≡ some c) × Keeps σ c → ((c : Bindings X A) → Keeps σ c → Among gs c us σ) → Among (g ∷ gs) b (u ∷ us) σ
      go c rest =
          let r = rest c.0 c.2 in
          record {
            bindings = r.bindings;
            among = gather-in (λ t. from (λ c. map (placed t) (placings gs c)) (meet_fact e_x e_a k g t.fact b)) ts (i u (Memᴰ.head refl)) (rw c.1 (Memᴰ.map (placed u) r.among));
            keeps = r.keeps;
          }
