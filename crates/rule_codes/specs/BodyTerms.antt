-- What is promised of the terms of a body, as codes in order.
use Rattle.std.specs.Prelude.{◌≡◌, List, ℕ}
use Rattle.spec.specs.Words.{◌∈◌, Term, Subgoal, Rule}
use Rattle.spec.specs.RuleLayout.{Layout}
use Rattle.codes.specs.Code.{term_code}
use Rattle.rule_codes.specs.InOrder.{InOrder}

-- The code of a term of these subgoals.
pub record CodeOf (gs : List (Subgoal (Term ℕ))) (w : ℕ) : Type 0 where
  pub goal : Subgoal (Term ℕ)
  pub among : goal ∈ gs
  pub term : Term ℕ
  pub stands : term ∈ goal.terms
  pub is : w ≡ term_code term

-- The terms of a rule's body, as codes.
pub record BodyTerms (arities bytes before after : List ℕ) (n : ℕ) : Type 0 where
  pub terms : (most : ℕ) (r : Rule ℕ) → Layout arities most bytes r → InOrder (CodeOf r.body) before after n
