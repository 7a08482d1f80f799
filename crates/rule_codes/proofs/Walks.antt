-- The walk over a rule's subgoals: where the next one begins, and what stands there.
use mathlib.Core.Path.{◌≡◌, sym, ap, ◌∙◌}
use mathlib.Core.Option.{some}
use mathlib.Core.List.{List}
use Prim.Native.Nat.{ℕ, suc, ◌+◌, ◌*◌, ◌<◌, ◌≤◌}
use native.Mathlib.Omega.{arith}
use lib.ListN.{length, get_or}
use Rattle.spec.specs.Words.{Term, Subgoal, Rule, Fits}
use Rattle.spec.specs.Summaries.{place}
use Rattle.spec.specs.RuleLayout.{Layout}
use Rattle.spec.proofs.Bytes.Standing.{TermsAt}
use Rattle.spec.proofs.Lists.Places.{place-some}
use Rattle.spec.proofs.Bytes.RulePlaces.{goal_start, first-start, next_start, start-bound, goal-relation, goal-terms}
use Rattle.spec.proofs.Lists.Counted.{place_in}
use Rattle.rule_codes.specs.Laid.{Laid}
use Rattle.rule_codes.specs.Promises.{HeadCount, GoalCount}
use Rattle.rule_codes.specs.Steps.{GoalAt, WalkedTo}

module _ {bytes : List ℕ} {n : ℕ} (h : HeadCount bytes n) where
  pub walk-starts : (arities : List ℕ) → WalkedTo arities bytes 0 (2 + 5 * n)
  walk-starts arities = record { is = λ m r l. ap (λ k. 2 + 5 * k) (h.is arities m r l) ∙ sym (first-start l) }

  -- "a head (0 to 8 terms)"
  pub heads-few : Laid bytes → n ≤ 8
  heads-few w = let same = h.is w.arities w.most w.rule w.layout in let short = w.layout.within.short in omega arith

-- The next subgoal of a rule.
pub record NextSubgoal (arities bytes : List ℕ) (r : Rule ℕ) (i at arity : ℕ) : Type 0 where
  pub goal : Subgoal (Term ℕ)
  pub place : place r.body (suc i) ≡ some goal
  pub known : get_or bytes at 0 < length arities
  pub here : GoalAt bytes at arity goal
  pub ends : at + (1 + 5 * arity) ≤ length bytes
  pub next : at + (1 + 5 * arity) ≡ goal_start r (suc i)

module _ {arities bytes : List ℕ} {n i at : ℕ} (count : GoalCount bytes n) (turn : i < n) (ahead : WalkedTo arities bytes i at) where
  pub next-goal : (arity most : ℕ) (r : Rule ℕ) → Layout arities most bytes r → arity ≡ get_or arities (get_or bytes at 0) 0 → NextSubgoal arities bytes r i at arity
  next-goal arity most r l e = record { goal = g; place = p; known = rw relation fits.known; here = here; ends = ends; next = next }
    where
      there : (g : Subgoal (Term ℕ)) × (Rattle.spec.specs.Summaries.place r.body (suc i) ≡ some g)
      there = place-some r.body i (let same = count.is arities most r l in omega arith)

      g : Subgoal (Term ℕ)
      g = there.0

      p : Rattle.spec.specs.Summaries.place r.body (suc i) ≡ some g
      p = there.1

      fits : Fits arities g
      fits = l.within.fit g (place_in r.body (suc i) p)

      start : at ≡ goal_start r i
      start = ahead.is most r l

      relation : get_or bytes at 0 ≡ g.relation
      relation = ap (λ q. get_or bytes q 0) start ∙ goal-relation l i g p

      long : length g.terms ≡ arity
      long = fits.long ∙ ap (λ q. get_or arities q 0) (sym relation) ∙ sym e

      next : at + (1 + 5 * arity) ≡ goal_start r (suc i)
      next = omega (arith, next_start l i g p, start, long)

      ends : at + (1 + 5 * arity) ≤ length bytes
      ends = omega (arith, next, start-bound l (suc i))

      terms : TermsAt bytes (at + 1) g.terms
      terms = rw start (goal-terms l i g p)

      here : GoalAt bytes at arity g
      here = record { room = omega (arith, ends); relation = relation; terms = record { long = long; here = terms } }

  pub walk-goes : (arity : ℕ) → arity ≡ get_or arities (get_or bytes at 0) 0 → WalkedTo arities bytes (i + 1) (at + (1 + 5 * arity))
  walk-goes arity e = record { is = λ m r l. let one : i + 1 ≡ suc i = omega arith in rw one (next-goal arity m r l e).next }
