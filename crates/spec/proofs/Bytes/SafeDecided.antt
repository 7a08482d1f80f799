-- It is decided of a rule whether it is safe, and of a head whether it is distinct variables; and what is wrong where not.
use mathlib.Core.Path.{◌≡◌, refl, ap}
use mathlib.Core.Logic.{◌⊎◌, inl, inr, ◌↔◌}
use mathlib.Core.Option.{some}
use mathlib.Core.List.Memᴰ
use mathlib.Core.List.{List, [], ◌∷◌}
use Prim.Native.Nat.{ℕ, zero, suc, ◌<◌}
use native.Mathlib.Omega.{arith}
use native.Mathlib.Decide.{ℕ_discrete, map_dec}
use Rattle.spec.specs.Words.{◌∈◌, Term, var, con, Subgoal, Rule, Safe, DistinctVariables}
use Rattle.spec.specs.Summaries.{place}
use Rattle.spec.proofs.Lists.Finite.{decided, contrary, each-or-not, some_in, is-in}
use Rattle.spec.proofs.Lists.Places.{no_place, nothing}
use Rattle.spec.proofs.Lists.Counted.{from_one, place_in}

same-term : (t u : Term ℕ) → Dec (t ≡ u)
same-term (var x) (var y) = map_dec (ap var) (λ e. cc) (ℕ_discrete x y)
same-term (var x) (con d) = no (λ e. let z : ◌≡◌ {A = ℕ} 0 1 = cc in omega arith)
same-term (con c) (var y) = no (λ e. let z : ◌≡◌ {A = ℕ} 0 1 = cc in omega arith)
same-term (con c) (con d) = map_dec (ap con) (λ e. cc) (ℕ_discrete c d)

-- "every head variable stands in the body", said of the head's terms
abbrev StandsInBody : List (Subgoal (Term ℕ)) → Term ℕ → Type 0
StandsInBody body (var x) = (g : Subgoal (Term ℕ)) × (g ∈ body) × (var x ∈ g.terms)
StandsInBody body (con c) = Unit {0}

stands-decided : (body : List (Subgoal (Term ℕ))) (t : Term ℕ) → Dec (StandsInBody body t)
stands-decided body (var x) = some_in (λ g. var x ∈ g.terms) (λ g. is-in same-term (var x) g.terms) body
stands-decided body (con c) = yes tt

module _ (r : Rule ℕ) where
  -- A head variable stands nowhere in the body.
  abbrev pub NotSafe : Type 0
  NotSafe = (x : ℕ) × (var x ∈ r.head) × ((g : Subgoal (Term ℕ)) → g ∈ r.body → var x ∈ g.terms → ⊥)

  safe-or-unsafe : Safe r ⊎ NotSafe
  safe-or-unsafe = go (each-or-not (StandsInBody r.body) (stands-decided r.body) r.head)
    where
      fails : (t : Term ℕ) → t ∈ r.head → (StandsInBody r.body t → ⊥) → NotSafe
      fails (var x) m f = (x, m, λ g i j. f (g, i, j))
      fails (con c) m f = absurd (f tt)

      go : ((t : Term ℕ) → t ∈ r.head → StandsInBody r.body t) ⊎ ((t : Term ℕ) × (t ∈ r.head) × (StandsInBody r.body t → ⊥)) → Safe r ⊎ NotSafe
      go (inl h) = inl (λ x m. h (var x) m)
      go (inr w) = inr (fails w.0 w.1 w.2)

  unsafe-not : NotSafe → Safe r → ⊥
  unsafe-not u h = let s = h u.0 u.1 in u.2 s.0 s.1 s.2

  pub safe-decided : Dec (Safe r)
  safe-decided = decided safe-or-unsafe unsafe-not

  -- "a rule isn't safe"
  pub fault-7 : (Safe r → ⊥) ↔ NotSafe
  fault-7 = contrary safe-or-unsafe unsafe-not

-- "holds a constant or a variable twice"
abbrev pub Constant : List (Term ℕ) → Type 0
Constant ts = (c : ℕ) × (con c ∈ ts)

abbrev pub Twice : List (Term ℕ) → Type 0
Twice ts = (x i j : ℕ) × (i < j) × (place ts i ≡ some (var x)) × (place ts j ≡ some (var x))

later : (t : Term ℕ) (ts : List (Term ℕ)) → Constant ts ⊎ Twice ts → Constant (t ∷ ts) ⊎ Twice (t ∷ ts)
later t ts (inl c) = inl (c.0, Memᴰ.tail c.1)
later t ts (inr (x, zero, j, l, p, q)) = no_place ts p
later t ts (inr (x, suc i, zero, l, p, q)) = no_place ts q
later t ts (inr (x, suc i, suc j, l, p, q)) = inr (x, suc (suc i), suc (suc j), omega arith, p, q)

distinct-or-not : (ts : List (Term ℕ)) → DistinctVariables ts ⊎ (Constant ts ⊎ Twice ts)
distinct-or-not [] = inl tt
distinct-or-not (con c ∷ ts) = inr (inl (c, Memᴰ.head refl))
distinct-or-not (var x ∷ ts) = go (is-in same-term (var x) ts) (distinct-or-not ts)
  where
    go : Dec (var x ∈ ts) → DistinctVariables ts ⊎ (Constant ts ⊎ Twice ts) → DistinctVariables (var x ∷ ts) ⊎ (Constant (var x ∷ ts) ⊎ Twice (var x ∷ ts))
    go (yes m) rest = let w = from_one ts m in inr (inr (x, 1, suc (suc w.0), omega arith, refl, w.1))
    go (no f) (inr w) = inr (later (var x) ts w)
    go (no f) (inl d) = inl (f, d)

constant-not : (c : ℕ) (ts : List (Term ℕ)) → con c ∈ ts → DistinctVariables ts → ⊥
constant-not c (con d ∷ ts) m h = h
constant-not c (var x ∷ ts) (Memᴰ.head e) h = let z : ◌≡◌ {A = ℕ} 0 1 = cc in omega arith
constant-not c (var x ∷ ts) (Memᴰ.tail m) h = constant-not c ts m h.1
constant-not c [] m h = elim m [ ]

twice-not : (ts : List (Term ℕ)) (x i j : ℕ) → i < j → place ts i ≡ some (var x) → place ts j ≡ some (var x) → DistinctVariables ts → ⊥
twice-not [] x i j l p q h = nothing p
twice-not (con c ∷ ts) x i j l p q h = h
twice-not (var y ∷ ts) x zero j l p q h = nothing p
twice-not (var y ∷ ts) x (suc i) zero l p q h = nothing q
twice-not (var y ∷ ts) x (suc i) (suc zero) l p q h = omega arith
twice-not (var y ∷ ts) x (suc zero) (suc (suc j)) l p q h = h.0 (let same : var y ≡ var x = cc in rw same (place_in ts (suc j) q))
twice-not (var y ∷ ts) x (suc (suc i)) (suc (suc j)) l p q h = twice-not ts x (suc i) (suc j) (omega arith) p q h.1

module _ (ts : List (Term ℕ)) where
  wrong-not : Constant ts ⊎ Twice ts → DistinctVariables ts → ⊥
  wrong-not (inl c) = constant-not c.0 ts c.1
  wrong-not (inr (x, i, j, l, p, q)) = twice-not ts x i j l p q

  pub distinct-decided : Dec (DistinctVariables ts)
  distinct-decided = decided (distinct-or-not ts) wrong-not

  -- "a summary's head holds a constant or a variable twice"
  pub fault-8 : (DistinctVariables ts → ⊥) ↔ (Constant ts ⊎ Twice ts)
  fault-8 = contrary (distinct-or-not ts) wrong-not
