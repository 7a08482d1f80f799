-- The turns of a walk over a rule's subgoals: what each reads as a width, or stores as nine codes.
use mathlib.Core.Path.{◌≡◌, refl, sym, ◌∙◌}
use mathlib.Core.Option.{some}
use mathlib.Core.List.{List}
use Prim.Native.Nat.{ℕ, suc, ◌*◌, ◌<◌}
use native.Mathlib.Omega.{arith}
use lib.ListN.{length, get_or}
use lib.Seq.{sets}
use Rattle.spec.specs.Words.{Term, Subgoal, Rule}
use Rattle.spec.specs.Summaries.{place}
use Rattle.spec.specs.RuleLayout.{Layout}
use Rattle.codes.specs.Code.{subgoal_codes}
use Rattle.rule_codes.specs.Codes.{tabled}
use Rattle.rule_codes.specs.Laid.{LaidOver}
use Rattle.rule_codes.specs.Promises.{GoalCount}
use Rattle.rule_codes.specs.Steps.{SomeGoal, NineAt, WalkedTo}
use Rattle.rule_codes.proofs.RuleLaid.{goals-counted}
use Rattle.rule_codes.proofs.Walks.{NextSubgoal, next-goal}

module _ {arities bytes : List ℕ} {n : ℕ} (w : LaidOver arities bytes) where
  pub goals-there : GoalCount bytes n → n ≡ get_or bytes 1 0
  goals-there h = h.is arities w.most w.rule w.layout ∙ sym (goals-counted w.layout)

  module _ {i at : ℕ} (count : GoalCount bytes n) (turn : i < n) (ahead : WalkedTo arities bytes i at) where
    -- the relation is there, and known
    pub relation-there : (at < length bytes) × (get_or bytes at 0 < length arities)
    relation-there =
        let g = next-goal count turn ahead (get_or arities (get_or bytes at 0) 0) w.most w.rule w.layout refl in
        (omega (arith, g.ends), g.known)

    module _ {arity : ℕ} (e : arity ≡ get_or arities (get_or bytes at 0) 0) where
      pub next-there : NextSubgoal arities bytes w.rule i at arity
      next-there = next-goal count turn ahead arity w.most w.rule w.layout e

      pub goal-there : SomeGoal bytes at arity
      goal-there = record { goal = next-there.goal; here = next-there.here }

      pub width-there : (most : ℕ) (r : Rule ℕ) → Layout arities most bytes r → (g : Subgoal (Term ℕ)) × (place r.body (suc i) ≡ some g) × (arity ≡ length g.terms)
      width-there most r l = let g = next-goal count turn ahead arity most r l e in (g.goal, g.place, sym g.here.terms.long)

      pub codes-there : {table out out' : List ℕ} → NineAt bytes at arity (9 * i) table out out'
          → (most : ℕ) (r : Rule ℕ) → Layout arities most bytes r → (g : Subgoal (Term ℕ)) × (place r.body (suc i) ≡ some g) × (out' ≡ sets out (9 * i) (subgoal_codes (tabled table) g))
      codes-there s most r l = let g = next-goal count turn ahead arity most r l e in (g.goal, g.place, s.is g.goal g.here)
