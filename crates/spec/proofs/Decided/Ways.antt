-- All ways in which a rule yields a row on listed facts, found by placing its subgoals.
use mathlib.Core.Path.{◌≡◌, refl, sym, ap₂, subst}
use mathlib.Core.List.Memᴰ
use mathlib.Core.List.{List, [], ◌∷◌, map}
use Prim.Native.Nat.{ℕ}
use Rattle.spec.specs.Words.{◌∈◌, Term, Subgoal, Rule, Listed, becomes, each, Yields}
use Rattle.spec.proofs.Decided.Equal.{Eq}
use Rattle.spec.proofs.Lists.Gathered.{from, from_out}
use Rattle.spec.proofs.Decided.Bindings.{unbound, valued}
use Rattle.spec.proofs.Decided.Meet.{meet_all, exact-all}
use Rattle.spec.proofs.Decided.Placings.{Target, Placing, placings, placings-sound, placings-complete}

abbrev pub fact_of : {A : Type 0} → Target A → Subgoal A
fact_of t = t.fact

-- A way in which the rule yields the row: its subgoals become the facts of these targets.
pub record Way {A X : Type 0} (k : ℕ → A) (q : Rule X) (ts : List (Target A)) (row : List A) (us : List (Target A)) : Type 0 where
  pub value : X → A
  pub gives : map (becomes k value) q.head ≡ row
  pub sends : map (each (becomes k value)) q.body ≡ map fact_of us
  pub inside : (t : Target A) → t ∈ us → t ∈ ts

-- Some targets for facts that are among those of the given ones.
pub chosen : {A : Type 0} (ts : List (Target A)) (fs : List (Subgoal A)) → ((f : Subgoal A) → f ∈ fs → f ∈ map fact_of ts)
    → (us : List (Target A)) × (fs ≡ map fact_of us) × ((t : Target A) → t ∈ us → t ∈ ts)
chosen ts [] h = ([], refl, λ t m. absurd (Memᴰ.not-nil m))
chosen {A} ts (f ∷ fs) h = go (Memᴰ.of_map fact_of ts (h f (Memᴰ.head refl))) (chosen ts fs (λ g m. h g (Memᴰ.tail m)))
  where
    go : (t : Target A) × (t ∈ ts) × (fact_of t ≡ f) → (us : List (Target A)) × (fs ≡ map fact_of us) × ((t : Target A) → t ∈ us → t ∈ ts)
        → (us : List (Target A)) × (f ∷ fs ≡ map fact_of us) × ((t : Target A) → t ∈ us → t ∈ ts)
    go t rest = (t.0 ∷ rest.0, ap₂ ◌∷◌ (sym t.2) rest.1, inside)
      where
        inside : (s : Target A) → s ∈ (t.0 ∷ rest.0) → s ∈ ts
        inside s (Memᴰ.head e) = Memᴰ.cast e t.1
        inside s (Memᴰ.tail m) = rest.2 s m

module _ {A X : Type 0} {k : ℕ → A} {q : Rule X} {ts : List (Target A)} {row : List A} where
  pub way-yields : {us : List (Target A)} → Way k q ts row us → Yields k q (Listed (map fact_of ts)) row
  way-yields {us} w = record { value = w.value; gives = w.gives; holds = holds' }
    where
      holds' : (g : Subgoal (Term X)) → g ∈ q.body → each (becomes k w.value) g ∈ map fact_of ts
      holds' g m =
          let t = Memᴰ.of_map fact_of us (subst (λ l. each (becomes k w.value) g ∈ l) w.sends (Memᴰ.map (each (becomes k w.value)) m)) in
          Memᴰ.cast (sym t.2) (Memᴰ.map fact_of (w.inside t.0 t.1))

  pub yields-way : Yields k q (Listed (map fact_of ts)) row → (us : List (Target A)) × Way k q ts row us
  yields-way y =
      let c = chosen ts (map (each (becomes k y.value)) q.body) holds' in
      (c.0, record { value = y.value; gives = y.gives; sends = c.1; inside = c.2 })
    where
      holds' : (f : Subgoal A) → f ∈ map (each (becomes k y.value)) q.body → f ∈ map fact_of ts
      holds' f m = let g = Memᴰ.of_map (each (becomes k y.value)) q.body m in Memᴰ.cast (sym g.2) (y.holds g.0 g.1)

module _ {A X : Type 0} (e_x : Eq X) (e_a : Eq A) (k : ℕ → A) where
  -- all ways in which the rule yields the row
  abbrev pub ways : Rule X → List (Target A) → List A → List (Placing X A)
  ways q ts row = from (placings e_x e_a k ts q.body) (meet_all e_x e_a k q.head row unbound)

  pub ways-sound : (q : Rule X) (ts : List (Target A)) (row : List A) (p : Placing X A) → p ∈ ways q ts row → Way k q ts row p.targets
  ways-sound q ts row p m =
      let s = from_out (placings e_x e_a k ts q.body) (meet_all e_x e_a k q.head row unbound) m in
      let r = placings-sound e_x e_a k ts q.body s.0 p s.2 in
      let x = exact-all e_x e_a k q.head row in
      let b = r.back (valued e_x (k 0) p.bindings) (r.fine (x.fine unbound s.0 s.1 tt)) in
      record { value = valued e_x (k 0) p.bindings; gives = (x.back unbound s.0 s.1 (valued e_x (k 0) p.bindings) b.0).1; sends = b.1; inside = r.inside }

  pub ways-complete : (q : Rule X) (ts : List (Target A)) (row : List A) (us : List (Target A)) → Way k q ts row us → (p : Placing X A) × (p ∈ ways q ts row) × (p.targets ≡ us)
  ways-complete q ts row us w =
      let h = (exact-all e_x e_a k q.head row).forth unbound w.value tt w.gives in
      let a = placings-complete e_x e_a k ts q.body h.0 us w.value w.inside h.2 w.sends in
      (record { targets = us; bindings = a.bindings }, rw h.1 a.among, refl)
