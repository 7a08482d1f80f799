-- Theorem 4, first part: what it is that two rules differ, and the facts where a rule's subgoals cannot all become summary rows.
use mathlib.Core.Path.{◌≡◌, subst}
use mathlib.Core.Option.{some, none, none-ne-some, some-injective}
use mathlib.Core.List.{List, [], ◌∷◌}
use Prim.Native.Nat.{ℕ, zero, suc, ◌+◌, ◌≤◌}
use native.Mathlib.Omega.{arith}
use Rattle.spec.specs.Words.{con, Subgoal, Rule, Listed, AllFit, becomes, each, Yields, itself}
use Rattle.spec.specs.Summaries.{Summaries, summary, Yielded, SummaryRow}
use Rattle.spec.specs.Demand.{OnlyOne, first}
use Rattle.spec.proofs.Decided.Equal.{eq_number}
use Rattle.containment.proofs.Held.{yielded-carry}
use Rattle.containment.proofs.Fit.{fit-each}
use Rattle.containment.proofs.Freeze.{Below, high, below-high, freeze, frozen, frozen_row, yields-frozen, melt, melt-constant, melt-fact, melted}

-- Finite facts that fit the arities, and a row that just one yields of the question over the facts and the rule over what the summaries yield on them.
pub record Differs {X : Type 0} (arities : List ℕ) (s : Summaries) (q : Rule ℕ) (p : Rule X) : Type 0 where
  pub facts : List (Subgoal ℕ)
  pub fit : AllFit arities facts
  pub row : List ℕ
  pub differs : OnlyOne (Yields itself q (Listed facts) row) (Yields itself p (Yielded itself s (Listed facts)) row)

highest : Summaries → ℕ
highest [] = 0
highest (none ∷ s) = highest s
highest (some r ∷ s) = high r + highest s

below-highest : (s : Summaries) (n : ℕ) (r : Rule ℕ) → summary s n ≡ some r → high r ≤ highest s
unfolding highest
below-highest [] n r e = absurd (none-ne-some r e)
below-highest (none ∷ s) zero r e = absurd (none-ne-some r e)
below-highest (some a ∷ s) zero r e = absurd (none-ne-some r e)
below-highest (none ∷ s) (suc zero) r e = absurd (none-ne-some r e)
below-highest (some a ∷ s) (suc zero) r e = subst (λ b. high b ≤ high a + highest s) (some-injective a r e) (omega arith)
below-highest (none ∷ s) (suc (suc n)) r e = below-highest s (suc n) r e
below-highest (some a ∷ s) (suc (suc n)) r e = omega (arith, below-highest s (suc n) r e)

module _ {X : Type 0} (arities : List ℕ) (s : Summaries) (q : Rule ℕ) (p : Rule X) where
  -- Where the rule's subgoals cannot all become summary rows with the question's head: on the question's frozen body.
  pub differs-first : AllFit arities q.body → (Yields con p (SummaryRow s q) q.head → ⊥) → Differs arities s q p
  differs-first fit never = record {
    facts = frozen eq_number base q;
    fit = fit-each arities (becomes itself (freeze eq_number base q)) q.body fit;
    row = frozen_row eq_number base q;
    differs = first (yields-frozen eq_number base q) (λ y. never (melted eq_number base q low p (below-high base p (omega arith)) melts y));
  }
    where
      base : ℕ
      base = high q + high p + highest s

      low : Below base q
      low = below-high base q (omega arith)

      melts : (f : Subgoal ℕ) → Yielded itself s (Listed (frozen eq_number base q)) f → SummaryRow s q (each (melt eq_number base q) f)
      melts = yielded-carry (melt eq_number base q) s (λ n r e c m. melt-constant eq_number base q c (below-high base r (omega (arith, below-highest s n r e)) c m)) (melt-fact eq_number base q low)
