-- What a rule yields, carried from values to other values; with it, mappings compose and contain.
use mathlib.Core.Path.{◌≡◌, refl, sym, ap, ap₂, ◌∙◌, subst}
use mathlib.Core.Logic.{◌⊎◌, inl, inr}
use mathlib.Core.List.Memᴰ
use mathlib.Core.List.{List, [], ◌∷◌, map}
use Prim.Native.Nat.{ℕ}
use Rattle.spec.specs.Words.{◌∈◌, Term, var, con, Subgoal, Rule, Facts, becomes, each, Yields, Mapping}

-- The term stands in the rule: in its head or in a subgoal.
abbrev pub StandsInRule : {X : Type 0} → Term X → Rule X → Type 0
StandsInRule {X} t r = (t ∈ r.head) ⊎ ((g : Subgoal (Term X)) × (g ∈ r.body) × (t ∈ g.terms))

module _ {A B X : Type 0} (h : A → B) (k : ℕ → A) (k' : ℕ → B) (f : X → A) where
  pub terms-carry : (ts : List (Term X)) → ((c : ℕ) → con c ∈ ts → h (k c) ≡ k' c) → map h (map (becomes k f) ts) ≡ map (becomes k' (λ x. h (f x))) ts
  terms-carry [] keeps = refl
  terms-carry (var x ∷ ts) keeps = ap (◌∷◌ (h (f x))) (terms-carry ts (λ c m. keeps c (Memᴰ.tail m)))
  terms-carry (con c ∷ ts) keeps = ap₂ ◌∷◌ (keeps c (Memᴰ.head refl)) (terms-carry ts (λ c m. keeps c (Memᴰ.tail m)))

  pub subgoal-carry : (g : Subgoal (Term X)) → ((c : ℕ) → con c ∈ g.terms → h (k c) ≡ k' c) → each h (each (becomes k f) g) ≡ each (becomes k' (λ x. h (f x))) g
  subgoal-carry g keeps = λ i. record { relation = g.relation; terms = terms-carry g.terms keeps i }

-- If h keeps the rule's constants and takes facts of d to facts of d', it takes yielded rows to yielded rows.
pub carry : {A B X : Type 0} (h : A → B) {k : ℕ → A} {k' : ℕ → B} {d : Facts A} {d' : Facts B} (r : Rule X)
    → ((c : ℕ) → StandsInRule (con c) r → h (k c) ≡ k' c) → ((f : Subgoal A) → d f → d' (each h f))
    → {row : List A} → Yields k r d row → Yields k' r d' (map h row)
carry h {k} {k'} {d} {d'} r keeps facts y = record {
  value = λ x. h (y.value x);
  gives = sym (terms-carry h k k' y.value r.head (λ c m. keeps c (inl m))) ∙ ap (map h) y.gives;
  holds = λ g m. subst d' (subgoal-carry h k k' y.value g (λ c i. keeps c (inr (g, m, i)))) (facts _ (y.holds g m));
}

-- The same values, and more facts.
pub more : {A X : Type 0} {k : ℕ → A} {r : Rule X} {d d' : Facts A} {row : List A} → ((f : Subgoal A) → d f → d' f) → Yields k r d row → Yields k r d' row
more facts y = record { value = y.value; gives = y.gives; holds = λ g m. facts _ (y.holds g m) }

-- What a term, a subgoal become one after the other.
module _ {A X Y : Type 0} (k : ℕ → A) (σ : X → Term Y) (f : Y → A) where
  pub terms-after : (ts : List (Term X)) → map (becomes k f) (map (becomes con σ) ts) ≡ map (becomes k (λ x. becomes k f (σ x))) ts
  terms-after ts = terms-carry (becomes k f) con k σ ts (λ c m. refl)

  pub subgoal-after : (g : Subgoal (Term X)) → each (becomes k f) (each (becomes con σ) g) ≡ each (becomes k (λ x. becomes k f (σ x))) g
  subgoal-after g = subgoal-carry (becomes k f) con k σ g (λ c m. refl)

-- A mapping from q to r: what r yields, q yields too, over any values.
pub contains : {A X Y : Type 0} {k : ℕ → A} {q : Rule X} {r : Rule Y} {d : Facts A} {row : List A} → Mapping q r → Yields k r d row → Yields k q d row
contains {A} {X} {Y} {k} {q} {r} {d} m y = subst (Yields k q d) y.gives (carry (becomes k y.value) q (λ c i. refl) (λ f i. y.holds f i) m)

pub terms-same : {X : Type 0} (ts : List (Term X)) → map (becomes con var) ts ≡ ts
terms-same [] = refl
terms-same (var x ∷ ts) = ap (◌∷◌ (var x)) (terms-same ts)
terms-same (con c ∷ ts) = ap (◌∷◌ (con c)) (terms-same ts)

pub subgoal-same : {X : Type 0} (g : Subgoal (Term X)) → each (becomes con var) g ≡ g
subgoal-same g = λ i. record { relation = g.relation; terms = terms-same g.terms i }

-- A mapping from each rule to itself.
pub identity : {X : Type 0} (r : Rule X) → Mapping r r
identity r = record { value = var; gives = terms-same r.head; holds = λ g m. rw subgoal-same m }
