-- Theorem 4: a rule over the summaries with fewer subgoals than every equivalent list of rows differs from the question on facts that are named.
use mathlib.Core.Logic.{◌↔◌}
use mathlib.Core.List.{List}
use Prim.Native.Nat.{ℕ, ◌+◌, ◌≤◌, ◌<◌}
use native.Mathlib.Omega.{arith}
use lib.ListN.{length}
use Rattle.spec.specs.Words.{Term, con, Subgoal, Rule, Facts, Listed, AllFit, becomes, Yields, itself, Mapping}
use Rattle.spec.specs.Summaries.{Summaries, Yielded, HoldJust, Own, expansion, rewriting}
use Rattle.spec.specs.Answer.{Rewrites, Answer}
use Rattle.spec.specs.Demand.{OverAdmitted, OnlyOne, first, second}
use Rattle.spec.proofs.Decided.Equal.{Eq, eq_number, eq_term, eq_own}
use Rattle.spec.proofs.Decided.Decide.{dec_yields}
use Rattle.spec.proofs.Decided.Sound.{AllSafe}
use Rattle.spec.proofs.Decided.Rows.{all_rows, all_rows-sound, all_rows-complete}
use Rattle.containment.proofs.Carry.{more, contains}
use Rattle.containment.proofs.Suit.{row-suits}
use Rattle.containment.proofs.Expand.{expansion-back}
use Rattle.containment.proofs.Held.{over-held}
use Rattle.containment.proofs.Fit.{FitEvery, fit-each, fit-expansion}
use Rattle.containment.proofs.Freeze.{high, below-high, freeze, frozen, frozen_row, yields-frozen, converse}
use Rattle.containment.proofs.ListsOfRows.{Image, image}
use Rattle.containment.proofs.Same.{equivalent-same, rewrites-suit}
use Rattle.containment.proofs.Normal.{put-in-order, answer-least}
use Rattle.containment.proofs.DiffersFirst.{differs-first}
pub use Rattle.containment.proofs.DiffersFirst.{Differs}

module _ {X : Type 0} (arities : List ℕ) (s : Summaries) (q : Rule ℕ) (p : Rule X) where
  -- Where they become summary rows to whose expansion no mapping goes from the question: on that expansion's frozen body.
  differs-second : FitEvery arities s → (i : Image s q p) → (Mapping q (expansion s (rewriting q i.list)) → ⊥) → Differs arities s q p
  differs-second fit i never = record {
    facts = facts;
    fit = fit-each arities (becomes itself (freeze e base x)) x.body (fit-expansion arities s fit r);
    row = frozen_row e base x;
    differs = second (λ y. never (converse e base x (below-high base x (omega arith)) q (below-high base q (omega arith)) y))
        (contains i.onto (expansion-back itself s (Listed facts) r (frozen_row e base x) (λ g m. row-suits g (i.rows g m)) (yields-frozen e base x)));
  }
    where
      e : Eq (Own ℕ)
      e = eq_own eq_number

      r : Rule ℕ
      r = rewriting q i.list

      x : Rule (Own ℕ)
      x = expansion s r

      base : ℕ
      base = high q + high x

      facts : List (Subgoal ℕ)
      facts = frozen e base x

  -- A rule shorter than every equivalent list of summary rows.
  pub shorter-differs : Eq X → AllSafe s → AllFit arities q.body → FitEvery arities s → ((l : List (Subgoal (Term ℕ))) → Rewrites s q l → length l ≤ length p.body → ⊥) → Differs arities s q p
  shorter-differs e_x safe fitq fits never = go (dec_yields e_x (eq_term eq_number) con p (all_rows s q) q.head)
    where
      go : Dec (Yields con p (Listed (all_rows s q)) q.head) → Differs arities s q p
      go (no h) = differs-first arities s q p fitq (λ y. h (more (all_rows-complete s q safe) y))
      go (yes y) =
          let i = image s q p (more (all_rows-sound s q) y) in
          differs-second fits i (λ there. let o = (put-in-order s q i.list i.rows there).ordered in never o.list o.rewrites (omega (arith, o.few, i.long)))

  -- Fewer subgoals than the answer.
  pub answer-differs : Eq X → AllSafe s → AllFit arities q.body → FitEvery arities s → (l : List (Subgoal (Term ℕ))) → Answer s q l → length p.body < length l → Differs arities s q p
  answer-differs e_x safe fitq fits l a fewer = shorter-differs e_x safe fitq fits (λ m w few. omega (arith, answer-least s q l m a w))

  -- Any number of subgoals, where no list works.
  pub refused-differs : Eq X → AllSafe s → AllFit arities q.body → FitEvery arities s → ((l : List (Subgoal (Term ℕ))) → Rewrites s q l → ⊥) → Differs arities s q p
  refused-differs e_x safe fitq fits never = shorter-differs e_x safe fitq fits (λ m w few. never m w)

  -- The same over any summaries that hold just what their definitions yield, for a rule over admitted summaries.
  pub differs-held : OverAdmitted s p → (w : Differs arities s q p) (held : Facts ℕ) → HoldJust s (Listed w.facts) held
      → OnlyOne (Yields itself q (Listed w.facts) w.row) (Yields itself p held w.row)
  differs-held over w held just = go w.differs
    where
      go : OnlyOne (Yields itself q (Listed w.facts) w.row) (Yields itself p (Yielded itself s (Listed w.facts)) w.row) → OnlyOne (Yields itself q (Listed w.facts) w.row) (Yields itself p held w.row)
      go (first y n) = first y (λ z. n ((over-held s (Listed w.facts) held just p over w.row).0 z))
      go (second n y) = second n ((over-held s (Listed w.facts) held just p over w.row).1 y)

-- A rule as long as the answer need not differ: the answer does not.
pub answer-differs-not : (arities : List ℕ) (s : Summaries) (q : Rule ℕ) (l : List (Subgoal (Term ℕ))) → Answer s q l → Differs arities s q (rewriting q l) → ⊥
answer-differs-not arities s q l a w = go w.differs (equivalent-same itself s q (rewriting q l) (rewrites-suit a.holds) a.holds.equivalent (Listed w.facts) w.row)
  where
    go : {P Q : Type 0} → OnlyOne P Q → Q ↔ P → ⊥
    go (first p n) e = n (e.1 p)
    go (second n y) e = n (e.0 y)
