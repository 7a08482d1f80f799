-- Places of a list and the uses that an expansion joins.
use mathlib.Core.Path.{◌≡◌, refl, sym, subst}
use mathlib.Core.Logic.{⊎_elim}
use mathlib.Core.Option.{some, none-ne-some, some-injective}
use mathlib.Core.List.Memᴰ
use mathlib.Core.List.{List, [], ◌∷◌}
use Prim.Native.Nat.{ℕ, zero, suc, ◌+◌}
use native.Mathlib.Omega.{arith}
use native.Mathlib.Nat.{zero-add}
use Rattle.spec.specs.Words.{◌∈◌, Term, Subgoal}
use Rattle.spec.specs.Summaries.{place, Summaries, Own, in_place, uses, joined}

module _ {X : Type 0} (s : Summaries) where
  -- A subgoal of the expansion: of which use it is.
  pub record Used (u : ℕ) (gs : List (Subgoal (Term X))) (c : Subgoal (Term (Own X))) : Type 0 where
    pub by : ℕ
    pub of : Subgoal (Term X)
    pub at : place gs (suc by) ≡ some of
    pub inside : c ∈ in_place s (by + u) of

  pub used : (u : ℕ) (gs : List (Subgoal (Term X))) (c : Subgoal (Term (Own X))) → c ∈ joined (uses s u gs) → Used u gs c
  used u [] c m = absurd (Memᴰ.not-nil m)
  used u (g ∷ gs) c m = ⊎_elim first (λ i. later (used (suc u) gs c i)) (Memᴰ.append_cases (in_place s u g) m)
    where
      first : c ∈ in_place s u g → Used u (g ∷ gs) c
      first i = record { by = 0; of = g; at = refl; inside = rw zero-add i }

      later : Used (suc u) gs c → Used u (g ∷ gs) c
      later w = let e : w.by + suc u ≡ suc w.by + u = omega arith in record { by = suc w.by; of = w.of; at = w.at; inside = subst (λ n. c ∈ in_place s n w.of) e w.inside }

  pub in-use : (u : ℕ) (gs : List (Subgoal (Term X))) (c : Subgoal (Term (Own X))) → Used u gs c → c ∈ joined (uses s u gs)
  in-use u gs c w = go u gs w.by w.at w.inside
    where
      go : (u : ℕ) (gs : List (Subgoal (Term X))) (j : ℕ) → place gs (suc j) ≡ some w.of → c ∈ in_place s (j + u) w.of → c ∈ joined (uses s u gs)
      go u [] j at i = absurd (none-ne-some w.of at)
      go u (g ∷ gs) zero at i = let e = sym (some-injective g w.of at) in Memᴰ.append_left (joined (uses s (suc u) gs)) (subst (λ z. c ∈ in_place s u z) e (rw zero-add at i))
      go u (g ∷ gs) (suc j) at i = let e : suc j + u ≡ j + suc u = omega arith in Memᴰ.append_right (in_place s u g) (go (suc u) gs j at (subst (λ n. c ∈ in_place s n w.of) e i))
