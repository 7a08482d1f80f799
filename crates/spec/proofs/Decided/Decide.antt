-- Whether a rule yields a row on listed facts, decided by finite search; and so whether there is a containment mapping.
use mathlib.Core.Path.{◌≡◌, refl, ap, subst}
use mathlib.Core.Bool.{Bool, true, false}
use mathlib.Core.List.Memᴰ
use mathlib.Core.List.{List, [], ◌∷◌, map}
use Prim.Native.Nat.{ℕ}
use lib.Dec.{T}
use Rattle.spec.specs.Words.{◌∈◌, con, Subgoal, Rule, Listed, Yields, itself, Mapping}
use Rattle.spec.proofs.Lists.Tests.{decided}
use Rattle.spec.proofs.Decided.Equal.{Eq, eq_number, eq_term}
use Rattle.spec.proofs.Decided.Placings.{Target}
use Rattle.spec.proofs.Decided.Ways.{fact_of, way-yields, yields-way, ways, ways-sound, ways-complete}

abbrev some? : {A : Type 0} → List A → Bool
some? [] = false
some? (a ∷ l) = true

some_first : {A : Type 0} (l : List A) → T (some? l) → (a : A) × (a ∈ l)
some_first [] h = absurd h
some_first (a ∷ l) h = (a, Memᴰ.head refl)

some-any : {A : Type 0} (l : List A) → (a : A) × (a ∈ l) → T (some? l)
some-any [] m = Memᴰ.not-nil m.1
some-any (b ∷ l) m = tt

-- a fact whose place has no name
abbrev pub unnamed : {A : Type 0} → Subgoal A → Target A
unnamed f = record { bytes = []; fact = f }

pub facts-unnamed : {A : Type 0} (l : List (Subgoal A)) → map fact_of (map unnamed l) ≡ l
facts-unnamed [] = refl
facts-unnamed (f ∷ l) = ap (◌∷◌ f) (facts-unnamed l)

-- Any values with a test for equality, any k for what constants become.
module _ {A X : Type 0} (e_x : Eq X) (e_a : Eq A) (k : ℕ → A) (q : Rule X) (l : List (Subgoal A)) (row : List A) where
  abbrev pub yields : Bool
  yields = some? (ways e_x e_a k q (map unnamed l) row)

  pub yields-sound : T yields → Yields k q (Listed l) row
  yields-sound h =
      let p = some_first (ways e_x e_a k q (map unnamed l) row) h in
      subst (λ fs. Yields k q (Listed fs) row) (facts-unnamed l) (way-yields (ways-sound e_x e_a k q (map unnamed l) row p.0 p.1))

  pub yields-complete : Yields k q (Listed l) row → T yields
  yields-complete y =
      let named : Yields k q (Listed (map fact_of (map unnamed l))) row = rw (facts-unnamed l) y in
      let w = yields-way named in
      let p = ways-complete e_x e_a k q (map unnamed l) row w.0 w.1 in
      some-any (ways e_x e_a k q (map unnamed l) row) (p.0, p.1)

  pub dec_yields : Dec (Yields k q (Listed l) row)
  dec_yields = decided yields yields-sound yields-complete

-- over numbers: what a rule yields on finite facts
pub dec_row : {X : Type 0} → Eq X → (q : Rule X) (facts : List (Subgoal ℕ)) (row : List ℕ) → Dec (Yields itself q (Listed facts) row)
dec_row e_x q facts row = dec_yields e_x eq_number itself q facts row

-- over terms: containment mappings
module _ {X Y : Type 0} (e_x : Eq X) (e_y : Eq Y) (q : Rule X) (r : Rule Y) where
  abbrev pub maps : Bool
  maps = yields e_x (eq_term e_y) con q r.body r.head

  pub maps-sound : T maps → Mapping q r
  maps-sound = yields-sound e_x (eq_term e_y) con q r.body r.head

  pub maps-complete : Mapping q r → T maps
  maps-complete = yields-complete e_x (eq_term e_y) con q r.body r.head

  pub dec_mapping : Dec (Mapping q r)
  dec_mapping = decided maps maps-sound maps-complete
