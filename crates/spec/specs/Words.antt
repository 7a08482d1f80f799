-- Terms, subgoals, rules; what a rule yields over any domain of values; containment mappings.
-- What a reader must believe, with the sentences of the specification beside the definitions.
use Rattle.std.specs.Prelude.{◌≡◌, ℕ, ◌<◌, length, get_or}
use mathlib.Core.List.{List, [], ◌∷◌, map, Memᴰ}

infix 4 ◌∈◌
abbrev pub ◌∈◌ : {A : Type 0} → A → List A → Type 0
a ∈ l = Memᴰ a l

-- "A term is a variable .. or a constant. Constant 0 and variable 0 are unlike." X is the type of the variables: each rule has its own.
pub data Term (X : Type 0) : Type 0 where
  var : X → Term X
  con : ℕ → Term X

-- "subgoals (a relation and its terms)". Over the summaries the relation is a summary's number; over values, in place of terms, it is a fact.
pub record Subgoal (A : Type 0) : Type 0 where
  pub relation : ℕ
  pub terms : List A

-- "A rule has a head (..terms) and a body of subgoals"
pub record Rule (X : Type 0) : Type 0 where
  pub head : List (Term X)
  pub body : List (Subgoal (Term X))

-- "It is safe if every head variable stands in the body."
abbrev pub Safe : {X : Type 0} → Rule X → Type 0
Safe {X} r = (x : X) → var x ∈ r.head → (g : Subgoal (Term X)) × (g ∈ r.body) × (var x ∈ g.terms)

-- "A summary is a rule whose head is distinct variables."
abbrev pub DistinctVariables : {X : Type 0} → List (Term X) → Type 0
DistinctVariables [] = Unit {0}
DistinctVariables (var x ∷ ts) = (var x ∈ ts → ⊥) × DistinctVariables ts
DistinctVariables (con c ∷ ts) = ⊥

-- Facts over values of A: which subgoals over them hold.
abbrev pub Facts : Type 0 → Type 1
Facts A = Subgoal A → Type 0

-- "Facts are a finite set of rows per relation": those of a list.
abbrev pub Listed : {A : Type 0} → List (Subgoal A) → Facts A
Listed l f = f ∈ l

-- ".. each as long as the relation's arity" (relations are numbered from 0)
pub record Fits {A : Type 0} (arities : List ℕ) (g : Subgoal A) : Type 0 where
  pub known : g.relation < length arities
  pub long : length g.terms ≡ get_or arities g.relation 0

abbrev pub AllFit : {A : Type 0} → List ℕ → List (Subgoal A) → Type 0
AllFit {A} arities l = (g : Subgoal A) → g ∈ l → Fits arities g

-- What a term becomes, where f says what variables become and k what constants become.
abbrev pub becomes : {A X : Type 0} → (ℕ → A) → (X → A) → Term X → A
becomes k f (var x) = f x
becomes k f (con c) = k c

abbrev pub each : {A B : Type 0} → (A → B) → Subgoal A → Subgoal B
each f g = record { relation = g.relation; terms = map f g.terms }

-- The rule yields the row on the facts: some values of its variables turn its head into the row and each subgoal into a fact.
pub record Yields {A X : Type 0} (k : ℕ → A) (r : Rule X) (facts : Facts A) (row : List A) : Type 0 where
  pub value : X → A
  pub gives : map (becomes k value) r.head ≡ row
  pub holds : (g : Subgoal (Term X)) → g ∈ r.body → facts (each (becomes k value) g)

-- "values are whole numbers": over numbers a constant is itself.
abbrev pub itself : ℕ → ℕ
itself c = c

-- "A containment mapping sends terms to terms, constants to themselves, head to head place by place, every subgoal to a subgoal."
-- So it is what q yields on r's body, over terms, where constants stay: r's head.
abbrev pub Mapping : {X Y : Type 0} → Rule X → Rule Y → Type 0
Mapping q r = Yields con q (Listed r.body) r.head
