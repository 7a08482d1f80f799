-- What stands in the uses of a list of rows: terms within bounds, own variables of that use alone, few subgoals.
use mathlib.Core.Path.{◌≡◌, refl, sym, ap, subst}
use mathlib.Core.Option.{some}
use mathlib.Core.List.Memᴰ
use mathlib.Core.List.{List, [], ◌∷◌, map}
use Prim.Native.Nat.{ℕ, suc, ◌*◌, ◌<◌, ◌≤◌}
use native.Mathlib.Omega.{arith}
use lib.ListN.{length, length-map, length-append}
use Rattle.spec.specs.Words.{◌∈◌, Term, var, con, Subgoal, Rule, AllFit, becomes, each}
use Rattle.spec.specs.Summaries.{Summaries, summary, or_empty, definition, Own, old, fresh, kept, in_use, in_place, uses, joined, rewriting}
use Rattle.spec.specs.RuleLayout.{TermWithin, RuleWithin}
use Rattle.spec.specs.BookLayout.{summary_most}
use Rattle.spec.proofs.Replaced.{replaced-all}
use Rattle.containment.proofs.Fit.{FitEvery, fit-expansion}
use Rattle.outcomes.specs.Bounds.{Bounds, RowsWithin}
use Rattle.search_meaning.specs.Codings.{OwnWithin}

-- A term of the use numbered u, within bounds.
abbrev pub OfUse : ℕ → Term (Own ℕ) → Type 0
OfUse u (var (old x)) = x < 32
OfUse u (var (fresh v x)) = (v ≡ u) × (x < 32)
OfUse u (con c) = c < 4294967296

pub of-use-within : (u : ℕ) (t : Term (Own ℕ)) → OfUse u t → OwnWithin t
of-use-within u (var (old x)) h = h
of-use-within u (var (fresh v x)) h = h.1
of-use-within u (con c) h = h

module _ (arities : List ℕ) (s : Summaries) (q : Rule ℕ) (bounds : Bounds arities s q) where
  definition-within : (n : ℕ) (r : Rule ℕ) → summary s n ≡ some r → RuleWithin arities summary_most (definition s n)
  definition-within n r e = subst (RuleWithin arities summary_most) (sym (ap or_empty e)) (bounds.summaries n r e)

  fit-every : FitEvery arities s
  fit-every n r e = (bounds.summaries n r e).fit

  module _ (l : List (Subgoal (Term ℕ))) (rows : RowsWithin s l) where
    pub uses-fit : AllFit arities (joined (uses s 0 l))
    uses-fit = fit-expansion arities s fit-every (rewriting q l)

    module _ (g : Subgoal (Term ℕ)) (m : g ∈ l) where
      within : RuleWithin arities summary_most (definition s g.relation)
      within = let w = rows.over g m in definition-within g.relation w.0 w.1

      kept-of-use : (u : ℕ) (t : Term ℕ) → TermWithin t → OfUse u (becomes con kept t)
      kept-of-use u (var x) h = h
      kept-of-use u (con c) h = h

      stands-of-use : (u : ℕ) (t : Term ℕ) → TermWithin t → OfUse u (becomes con (in_use s u g) t)
      stands-of-use u (var x) h = replaced-all (OfUse u) (definition s g.relation).head (map (becomes con kept) g.terms) (λ y. var (fresh u y)) x given (refl, h)
        where
          given : (t : Term (Own ℕ)) → t ∈ map (becomes con kept) g.terms → OfUse u t
          given t i = let w = Memᴰ.of_map (becomes con kept) g.terms i in subst (OfUse u) w.2 (kept-of-use u w.0 (rows.within g m w.0 w.1))
      stands-of-use u (con c) h = h

      pub use-terms : (u : ℕ) (c : Subgoal (Term (Own ℕ))) → c ∈ in_place s u g → (t : Term (Own ℕ)) → t ∈ c.terms → OfUse u t
      use-terms u c i t j =
          let b = Memᴰ.of_map (each (becomes con (in_use s u g))) (definition s g.relation).body i in
          let v = Memᴰ.of_map (becomes con (in_use s u g)) b.0.terms (subst (λ (z : Subgoal (Term (Own ℕ))). t ∈ z.terms) (sym b.2) j) in
          subst (OfUse u) v.2 (stands-of-use u v.0 (within.body b.0 b.1 v.0 v.1))

      pub use-some : (u : ℕ) → 1 ≤ length (in_place s u g)
      use-some u = omega (arith, length-map (definition s g.relation).body (each (becomes con (in_use s u g))), within.some)

      pub use-few : (u : ℕ) → length (in_place s u g) ≤ 8
      use-few u = omega (arith, length-map (definition s g.relation).body (each (becomes con (in_use s u g))), within.few)

  rows-tail : (g : Subgoal (Term ℕ)) (l : List (Subgoal (Term ℕ))) → RowsWithin s (g ∷ l) → RowsWithin s l
  rows-tail g l rows = record { over = λ h m. rows.over h (Memᴰ.tail m); within = λ h m. rows.within h (Memᴰ.tail m) }

  pub uses-few : (u : ℕ) (l : List (Subgoal (Term ℕ))) → RowsWithin s l → length (joined (uses s u l)) ≤ 8 * length l
  uses-few u [] rows = omega arith
  uses-few u (g ∷ l) rows = omega (arith, length-append (in_place s u g) (joined (uses s (suc u) l)), use-few (g ∷ l) rows g (Memᴰ.head refl) u, uses-few (suc u) l (rows-tail g l rows))
