-- All rows that a safe rule yields on listed facts, over any values.
use mathlib.Core.Path.{◌≡◌, refl, sym, ap, ◌∙◌, subst}
use mathlib.Core.List.Memᴰ
use mathlib.Core.List.{List, map}
use Prim.Native.Nat.{ℕ}
use Rattle.spec.specs.Words.{◌∈◌, Term, var, con, Subgoal, Rule, Safe, Listed, becomes, each, Yields}
use Rattle.spec.proofs.Decided.Equal.{Eq}
use Rattle.spec.proofs.Lists.Gathered.{map_same, same_map}
use Rattle.spec.proofs.Decided.Bindings.{unbound, valued}
use Rattle.spec.proofs.Decided.Placings.{Target, Placing, placings, PlacedOn, placings-sound, Among, placings-complete}
use Rattle.spec.proofs.Decided.Ways.{fact_of, Way, way-yields, yields-way}
use Rattle.spec.proofs.Decided.Decide.{unnamed, facts-unnamed}

module _ {A X : Type 0} (e_x : Eq X) (e_a : Eq A) (k : ℕ → A) (q : Rule X) (l : List (Subgoal A)) where
  abbrev head_of : Placing X A → List A
  head_of p = map (becomes k (valued e_x (k 0) p.bindings)) q.head

  abbrev pub yielded : List (List A)
  yielded = map head_of (placings e_x e_a k (map unnamed l) q.body unbound)

  pub yielded-sound : (row : List A) → row ∈ yielded → Yields k q (Listed l) row
  yielded-sound row m =
      let p = Memᴰ.of_map head_of (placings e_x e_a k (map unnamed l) q.body unbound) m in
      let r = placings-sound e_x e_a k (map unnamed l) q.body unbound p.0 p.1 in
      let w : Way k q (map unnamed l) (head_of p.0) p.0.targets = record { value = valued e_x (k 0) p.0.bindings; gives = refl; sends = (r.back (valued e_x (k 0) p.0.bindings) (r.fine tt)).1; inside = r.inside } in
      subst (λ d. Yields k q (Listed d) row) (facts-unnamed l) (subst (Yields k q (Listed (map fact_of (map unnamed l)))) p.2 (way-yields w))

  pub yielded-complete : Safe q → (row : List A) → Yields k q (Listed l) row → row ∈ yielded
  yielded-complete safe row y = go (yields-way {ts = map unnamed l} (subst (λ d. Yields k q (Listed d) row) (sym (facts-unnamed l)) y))
    where
      go : (us : List (Target A)) × Way k q (map unnamed l) row us → row ∈ yielded
      go w = Memᴰ.cast (sym w.1.gives ∙ heads) (Memᴰ.map head_of a.among)
        where
          σ : X → A
          σ = w.1.value

          a : Among e_x e_a k (map unnamed l) q.body unbound w.0 σ
          a = placings-complete e_x e_a k (map unnamed l) q.body unbound w.0 σ w.1.inside tt w.1.sends

          p : PlacedOn e_x e_a k (map unnamed l) q.body unbound record { targets = w.0; bindings = a.bindings }
          p = placings-sound e_x e_a k (map unnamed l) q.body unbound record { targets = w.0; bindings = a.bindings } a.among

          τ : X → A
          τ = valued e_x (k 0) a.bindings

          bodies : map (each (becomes k σ)) q.body ≡ map (each (becomes k τ)) q.body
          bodies = w.1.sends ∙ sym (p.back τ (p.fine tt)).1

          at : (t : Term X) → t ∈ q.head → becomes k σ t ≡ becomes k τ t
          at (con c) i = refl
          at (var x) i =
              let g = safe x i in
              same_map (becomes k σ) (becomes k τ) g.0.terms (ap (λ h. h.terms) (same_map (each (becomes k σ)) (each (becomes k τ)) q.body bodies g.0 g.1)) (var x) g.2

          heads : map (becomes k σ) q.head ≡ map (becomes k τ) q.head
          heads = map_same (becomes k σ) (becomes k τ) q.head at
