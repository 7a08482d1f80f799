-- A rule over the summaries and its expansion over the facts yield the same rows, over any values.
use mathlib.Core.Path.{◌≡◌, refl, sym, ap, ◌∙◌, subst, fun_ext}
use mathlib.Core.Logic.{inr, ◌↔◌}
use mathlib.Core.Option.{some, none-ne-some, some-injective}
use mathlib.Core.List.Memᴰ
use mathlib.Core.List.{List, [], ◌∷◌, map}
use Prim.Native.Nat.{ℕ, zero, suc}
use native.Mathlib.Nat.{add-zero}
use Rattle.spec.specs.Words.{◌∈◌, Term, var, con, Subgoal, Rule, Facts, becomes, each, Yields}
use Rattle.spec.specs.Summaries.{place, Summaries, definition, Yielded, Own, old, fresh, kept, in_use, in_place, expansion}
use Rattle.spec.proofs.Lists.Counted.{from_one}
use Rattle.containment.proofs.Carry.{terms-after, subgoal-after}
use Rattle.containment.proofs.Places.{used, in-use}
use Rattle.containment.proofs.Suit.{Suits, SuitAll, its-rule, its-yield, replaced-is, head-becomes}

-- One use: the summary's body in place, and what the summary yields.
module _ {A X : Type 0} (k : ℕ → A) (s : Summaries) (d : Facts A) (ξ : Own X → A) where
  pub use-back : (u : ℕ) (g : Subgoal (Term X)) → Suits s g → ((c : Subgoal (Term (Own X))) → c ∈ in_place s u g → d (each (becomes k ξ) c))
      → Yielded k s d (each (becomes k (λ x. ξ (old x))) g)
  use-back u g suits holds = record {
    rule = definition s g.relation;
    admitted = its-rule s g.relation suits.admitted;
    yields = record {
      value = λ x. becomes k ξ (in_use s u g x);
      gives = sym (terms-after k (in_use s u g) ξ (definition s g.relation).head) ∙ ap (map (becomes k ξ)) (head-becomes s u g suits) ∙ terms-after k kept ξ g.terms;
      holds = λ c m. rw (subgoal-after k (in_use s u g) ξ c) at (holds _ (Memᴰ.map (each (becomes con (in_use s u g))) m));
    };
  }

  pub use-forth : (u : ℕ) (g : Subgoal (Term X)) (y : Yields k (definition s g.relation) d (map (becomes k (λ x. ξ (old x))) g.terms))
      → ((x : ℕ) → ξ (fresh u x) ≡ y.value x) → (c : Subgoal (Term (Own X))) → c ∈ in_place s u g → d (each (becomes k ξ) c)
  use-forth u g y agree c m = subst d (ap (λ v. each (becomes k v) w.0) (fun_ext same) ∙ sym (subgoal-after k (in_use s u g) ξ w.0) ∙ ap (each (becomes k ξ)) w.2) (y.holds w.0 w.1)
    where
      w : (b : Subgoal (Term ℕ)) × (b ∈ (definition s g.relation).body) × (each (becomes con (in_use s u g)) b ≡ c)
      w = Memᴰ.of_map (each (becomes con (in_use s u g))) (definition s g.relation).body m

      same : (x : ℕ) → y.value x ≡ becomes k ξ (in_use s u g x)
      same x = sym (replaced-is (becomes k ξ) k y.value (definition s g.relation).head (map (becomes con kept) g.terms) (λ x. var (fresh u x)) (y.gives ∙ sym (terms-after k kept ξ g.terms)) x (inr (agree x)))

-- From the expansion over the facts to the rule over the summaries.
pub expansion-back : {A X : Type 0} (k : ℕ → A) (s : Summaries) (d : Facts A) (r : Rule X) (row : List A) → SuitAll s r → Yields k (expansion s r) d row → Yields k r (Yielded k s d) row
expansion-back k s d r row suits y = record {
  value = λ x. y.value (old x);
  gives = sym (terms-after k kept y.value r.head) ∙ y.gives;
  holds = λ g m. let w = from_one r.body m in
      use-back k s d y.value w.0 g (suits g m) (λ c i. y.holds c (in-use s 0 r.body c record { by = w.0; of = g; at = w.1; inside = rw add-zero i }));
}

abbrev pub extended : {A X : Type 0} → (X → A) → (ℕ → ℕ → A) → Own X → A
extended ν own (old x) = ν x
extended ν own (fresh u x) = own u x

module _ {A X : Type 0} (k : ℕ → A) (s : Summaries) (d : Facts A) (ν : X → A) where
  abbrev AllYielded : List (Subgoal (Term X)) → Type 0
  AllYielded gs = (g : Subgoal (Term X)) → g ∈ gs → Yielded k s d (each (becomes k ν) g)

  -- The values of each use's own variables.
  abbrev owns : (gs : List (Subgoal (Term X))) → AllYielded gs → ℕ → ℕ → A
  owns [] h j x = k 0
  owns (g ∷ gs) h zero x = (its-yield s (each (becomes k ν) g) (h g (Memᴰ.head refl))).value x
  owns (g ∷ gs) h (suc j) x = owns gs (λ b m. h b (Memᴰ.tail m)) j x

  abbrev Owned : (ℕ → A) → Subgoal (Term X) → Type 0
  Owned own g = (y : Yields k (definition s g.relation) d (map (becomes k ν) g.terms)) × ((x : ℕ) → own x ≡ y.value x)

  owned : (gs : List (Subgoal (Term X))) (h : AllYielded gs) (j : ℕ) (g : Subgoal (Term X)) → place gs (suc j) ≡ some g → Owned (owns gs h j) g
  owned [] h j g e = absurd (none-ne-some g e)
  owned (b ∷ gs) h zero g e = subst (Owned (owns (b ∷ gs) h zero)) (some-injective b g e) (its-yield s (each (becomes k ν) b) (h b (Memᴰ.head refl)), λ x. refl)
  owned (b ∷ gs) h (suc j) g e = owned gs (λ b m. h b (Memᴰ.tail m)) j g e

-- From the rule over the summaries to its expansion over the facts.
pub expansion-forth : {A X : Type 0} (k : ℕ → A) (s : Summaries) (d : Facts A) (r : Rule X) (row : List A) → Yields k r (Yielded k s d) row → Yields k (expansion s r) d row
expansion-forth {A} {X} k s d r row y = record {
  value = ξ;
  gives = terms-after k kept ξ r.head ∙ y.gives;
  holds = λ c m. let w = used s 0 r.body c m in
      let o = owned k s d y.value r.body y.holds w.by w.of w.at in
      use-forth k s d ξ w.by w.of o.0 o.1 c (rw add-zero at w.inside);
}
  where
    ξ : Own X → A
    ξ = extended y.value (owns k s d y.value r.body y.holds)

pub expansion-same : {A X : Type 0} (k : ℕ → A) (s : Summaries) (d : Facts A) (r : Rule X) → SuitAll s r → (row : List A) → Yields k r (Yielded k s d) row ↔ Yields k (expansion s r) d row
expansion-same k s d r suits row = (expansion-forth k s d r row, expansion-back k s d r row suits)
