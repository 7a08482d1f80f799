-- What becomes of a use where values are given to the old variables and to the use's own: nothing else matters, its number neither.
use mathlib.Core.Path.{◌≡◌, refl, sym, ap, ap₂, ◌∙◌, fun_ext}
use mathlib.Core.Bool.{Bool, true, false, cond}
use mathlib.Core.List.Memᴰ
use mathlib.Core.List.{List, [], ◌∷◌, map}
use Prim.Native.Nat.{ℕ}
use lib.Dec.{eqb}
use Rattle.spec.specs.Words.{◌∈◌, Term, var, con, Subgoal, becomes, each}
use Rattle.spec.specs.Summaries.{Summaries, definition, Own, old, fresh, replaced, kept, in_use, in_place}
use Rattle.containment.proofs.Carry.{terms-after, subgoal-after, subgoal-same}

replaced-map : {A B : Type 0} (h : B → A) (ss : List (Term ℕ)) (ts : List B) (other : ℕ → B) (x : ℕ) → h (replaced ss ts other x) ≡ replaced ss (map h ts) (λ y. h (other y)) x
replaced-map h [] ts other x = refl
replaced-map h (s ∷ ss) [] other x = refl
replaced-map h (con c ∷ ss) (t ∷ ts) other x = replaced-map h ss ts other x
replaced-map {A} {B} h (var y ∷ ss) (t ∷ ts) other x = go (eqb y x) (replaced-map h ss ts other x)
  where
    go : (b : Bool) → h (replaced ss ts other x) ≡ replaced ss (map h ts) (λ z. h (other z)) x → h (cond b t (replaced ss ts other x)) ≡ cond b (h t) (replaced ss (map h ts) (λ z. h (other z)) x)
    go true e = refl
    go false e = e

module _ {A X : Type 0} (k : ℕ → A) (s : Summaries) (g : Subgoal (Term X)) where
  -- A variable of the summary becomes a value of the old variables, or of the use's own.
  use-value : (u : ℕ) (ξ : Own X → A) (x : ℕ) → becomes k ξ (in_use s u g x) ≡ replaced (definition s g.relation).head (map (becomes k (λ y. ξ (old y))) g.terms) (λ y. ξ (fresh u y)) x
  use-value u ξ x =
      replaced-map (becomes k ξ) (definition s g.relation).head (map (becomes con kept) g.terms) (λ y. var (fresh u y)) x
      ∙ ap (λ ts. replaced (definition s g.relation).head ts (λ y. ξ (fresh u y)) x) (terms-after k kept ξ g.terms)

  -- Two uses of one subgoal, with values that agree.
  module _ (u v : ℕ) (ξ ζ : Own X → A) (olds : (x : X) → ξ (old x) ≡ ζ (old x)) (owns : (x : ℕ) → ξ (fresh u x) ≡ ζ (fresh v x)) where
    values_agree : (x : ℕ) → becomes k ξ (in_use s u g x) ≡ becomes k ζ (in_use s v g x)
    values_agree x =
        use-value u ξ x
        ∙ ap₂ (λ f o. replaced (definition s g.relation).head (map (becomes k f) g.terms) o x) (fun_ext olds) (fun_ext owns)
        ∙ sym (use-value v ζ x)

    pub uses-agree : (b : Subgoal (Term ℕ)) → each (becomes k ξ) (each (becomes con (in_use s u g)) b) ≡ each (becomes k ζ) (each (becomes con (in_use s v g)) b)
    uses-agree b = subgoal-after k (in_use s u g) ξ b ∙ ap (λ f. each (becomes k f) b) (fun_ext values_agree) ∙ sym (subgoal-after k (in_use s v g) ζ b)

-- Values that agree on a use agree on its subgoals.
pub same-use : {A X : Type 0} (k : ℕ → A) (s : Summaries) (g : Subgoal (Term X)) (u : ℕ) (ξ ζ : Own X → A) → ((x : X) → ξ (old x) ≡ ζ (old x)) → ((x : ℕ) → ξ (fresh u x) ≡ ζ (fresh u x))
    → (c : Subgoal (Term (Own X))) → c ∈ in_place s u g → each (becomes k ξ) c ≡ each (becomes k ζ) c
same-use k s g u ξ ζ olds owns c m =
    let w = Memᴰ.of_map (each (becomes con (in_use s u g))) (definition s g.relation).body m in
    ap (each (becomes k ξ)) (sym w.2) ∙ uses-agree k s g u u ξ ζ olds owns w.0 ∙ ap (each (becomes k ζ)) w.2

-- The use numbered u becomes the use numbered v, where its own variables become those.
pub renumbered : {X : Type 0} (s : Summaries) (g : Subgoal (Term X)) (u v : ℕ) (ξ : Own X → Term (Own X)) → ((x : X) → ξ (old x) ≡ var (old x)) → ((x : ℕ) → ξ (fresh u x) ≡ var (fresh v x))
    → (c : Subgoal (Term (Own X))) → c ∈ in_place s u g → each (becomes con ξ) c ∈ in_place s v g
renumbered s g u v ξ olds owns c m =
    let w = Memᴰ.of_map (each (becomes con (in_use s u g))) (definition s g.relation).body m in
    Memᴰ.cast (ap (each (becomes con ξ)) (sym w.2) ∙ uses-agree con s g u v ξ var olds owns w.0 ∙ subgoal-same (each (becomes con (in_use s v g)) w.0))
    (Memᴰ.map (each (becomes con (in_use s v g))) w.1)
