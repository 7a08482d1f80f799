-- Frozen facts: a rule's own body, each variable a number of its own above all constants; and melting them again.
use mathlib.Core.Path.{◌≡◌, refl, sym, ap, ap₂, ◌∙◌, subst}
use mathlib.Core.Logic.{inl, inr}
use mathlib.Core.Bool.{Bool, true, false, cond}
use mathlib.Core.List.Memᴰ
use mathlib.Core.List.{List, [], ◌∷◌, ◌++◌, map}
use Prim.Native.Nat.{ℕ, suc, ◌+◌, ◌-◌, ◌≤◌, ◌<◌}
use native.Mathlib.Omega.{arith}
use lib.Dec.{T, ltb}
use lib.ListN.{get_or}
use borrow.Author.Tests.{lt-ltb, le-ltb}
use Rattle.spec.specs.Words.{◌∈◌, Term, var, con, Subgoal, Rule, Facts, Listed, becomes, each, Yields, itself, Mapping}
use Rattle.spec.proofs.Lists.Tests.{passes, fails}
use Rattle.spec.proofs.Decided.Equal.{Eq, term_test, term-sound, term-same}
use Rattle.spec.proofs.Lists.Gathered.{gather, gather-in}
use Rattle.containment.proofs.Carry.{StandsInRule, carry}

abbrev pub terms_of : {X : Type 0} → Rule X → List (Term X)
terms_of r = r.head ++ gather (λ g. g.terms) r.body

stands-in : {X : Type 0} {t : Term X} (r : Rule X) → StandsInRule t r → t ∈ terms_of r
stands-in r (inl m) = Memᴰ.append_left (gather (λ g. g.terms) r.body) m
stands-in r (inr w) = Memᴰ.append_right r.head (gather-in (λ g. g.terms) r.body w.1 w.2)

-- Every constant of the rule is below the number.
abbrev pub Below : {X : Type 0} → ℕ → Rule X → Type 0
Below base r = (c : ℕ) → StandsInRule (con c) r → c < base

abbrev above : {X : Type 0} → List (Term X) → ℕ
above [] = 0
above (var x ∷ ts) = above ts
above (con c ∷ ts) = suc c + above ts

below-above : {X : Type 0} (c : ℕ) (ts : List (Term X)) → con c ∈ ts → c < above ts
below-above c (var x ∷ ts) (Memᴰ.head e) = let z : ◌≡◌ {A = ℕ} 0 1 = cc in omega arith
below-above c (var x ∷ ts) (Memᴰ.tail m) = below-above c ts m
below-above c (con b ∷ ts) (Memᴰ.head e) = let z : c ≡ b = cc in omega arith
below-above c (con b ∷ ts) (Memᴰ.tail m) = omega (arith, below-above c ts m)
below-above {X = X} c [] x' = elim x' [ ]

-- A number above every constant of the rule.
abbrev pub high : {X : Type 0} → Rule X → ℕ
high r = above (terms_of r)

pub below-high : {X : Type 0} (base : ℕ) (r : Rule X) → high r ≤ base → Below base r
below-high base r h c m = omega (arith, below-above c (terms_of r) (stands-in r m))

module _ {Y : Type 0} (e : Eq Y) where
  -- A variable's first place among terms.
  abbrev number : List (Term Y) → Y → ℕ
  number [] y = 0
  number (t ∷ ts) y = cond (term_test e t (var y)) 0 (suc (number ts y))

  numbered : (ts : List (Term Y)) (y : Y) → var y ∈ ts → get_or ts (number ts y) (con 0) ≡ var y
  numbered (t ∷ ts) y m = go (numbered ts y) (term_test e t (var y)) refl m
    where
      go : (var y ∈ ts → get_or ts (number ts y) (con 0) ≡ var y) → (b : Bool) → term_test e t (var y) ≡ b → var y ∈ (t ∷ ts) → get_or (t ∷ ts) (cond b 0 (suc (number ts y))) (con 0) ≡ var y
      go ih true q m = term-sound e t (var y) (passes q)
      go ih false q (Memᴰ.head p) = absurd (fails q (subst (λ z. T (term_test e z (var y))) p (term-same e (var y))))
      go ih false q (Memᴰ.tail m) = ih m
  numbered [] y m = elim m [ ]

  module _ (base : ℕ) (r : Rule Y) where
    abbrev pub freeze : Y → ℕ
    freeze y = base + number (terms_of r) y

    abbrev pub frozen : List (Subgoal ℕ)
    frozen = map (each (becomes itself freeze)) r.body

    abbrev pub frozen_row : List ℕ
    frozen_row = map (becomes itself freeze) r.head

    -- On its frozen body the rule yields its frozen head.
    pub yields-frozen : Yields itself r (Listed frozen) frozen_row
    yields-frozen = record { value = freeze; gives = refl; holds = λ g m. Memᴰ.map (each (becomes itself freeze)) m }

    abbrev pub melt : ℕ → Term Y
    melt n = cond (ltb n base) (con n) (get_or (terms_of r) (n - base) (con 0))

    pub melt-constant : (c : ℕ) → c < base → melt c ≡ con c
    melt-constant c h = rw (lt-ltb c base h)

    module _ (below : Below base r) where
      melt-term : (t : Term Y) → StandsInRule t r → melt (becomes itself freeze t) ≡ t
      melt-term (con c) m = melt-constant c (below c m)
      melt-term (var y) m =
          let n = number (terms_of r) y in
          let s : base + n - base ≡ n = omega arith in
          rw (le-ltb (base + n) base (omega arith), s) (numbered (terms_of r) y (stands-in r m))

      melt-terms : (ts : List (Term Y)) → ((t : Term Y) → t ∈ ts → StandsInRule t r) → map melt (map (becomes itself freeze) ts) ≡ ts
      melt-terms [] h = refl
      melt-terms (t ∷ ts) h = ap₂ ◌∷◌ (melt-term t (h t (Memᴰ.head refl))) (melt-terms ts (λ s m. h s (Memᴰ.tail m)))

      pub melt-row : map melt frozen_row ≡ r.head
      melt-row = melt-terms r.head (λ t m. inl m)

      pub melt-fact : (f : Subgoal ℕ) → f ∈ frozen → each melt f ∈ r.body
      melt-fact f m =
          let w = Memᴰ.of_map (each (becomes itself freeze)) r.body m in
          let terms = melt-terms w.0.terms (λ t i. inr (w.0, w.1, i)) in
          let same : each melt (each (becomes itself freeze) w.0) ≡ w.0 = λ i. record { relation = w.0.relation; terms = terms i } in
          Memᴰ.cast (ap (each melt) (sym w.2) ∙ same) w.1

      -- What a rule yields on frozen facts it yields on what they melt to.
      pub melted : {X : Type 0} {d : Facts ℕ} {d' : Facts (Term Y)} (p : Rule X) → Below base p → ((f : Subgoal ℕ) → d f → d' (each melt f)) → Yields itself p d frozen_row → Yields con p d' r.head
      melted {X} {d} {d'} p low facts y = subst (Yields con p d') melt-row (carry melt p (λ c m. melt-constant c (low c m)) facts y)

      -- Chandra and Merlin's converse: q yields r's frozen head on r's frozen body only if a mapping goes from q to r.
      pub converse : {X : Type 0} (q : Rule X) → Below base q → Yields itself q (Listed frozen) frozen_row → Mapping q r
      converse q low y = melted q low melt-fact y
