-- What the builders promise, of every rule whose layout the bytes are.
use Rattle.std.specs.Prelude.{◌≡◌, List, ℕ, length}
use Rattle.spec.specs.Words.{Term, Rule}
use Rattle.spec.specs.RuleLayout.{Layout}
use Rattle.spec.specs.Given.{at_front}
use Rattle.codes.specs.Code.{codes_of, widths_of}

module _ (bytes : List ℕ) where
  pub record HeadCount (n : ℕ) : Type 0 where
    pub is : (arities : List ℕ) (most : ℕ) (r : Rule ℕ) → Layout arities most bytes r → n ≡ length r.head

  pub record GoalCount (n : ℕ) : Type 0 where
    pub is : (arities : List ℕ) (most : ℕ) (r : Rule ℕ) → Layout arities most bytes r → n ≡ length r.body

module _ (arities bytes : List ℕ) where
  -- the body's codes at the front of an area
  pub record BodyCodes (code : Term ℕ → ℕ) (before after : List ℕ) (n : ℕ) : Type 0 where
    pub count : (most : ℕ) (r : Rule ℕ) → Layout arities most bytes r → n ≡ length r.body
    pub codes : (most : ℕ) (r : Rule ℕ) → Layout arities most bytes r → after ≡ at_front (codes_of code r.body) before

  -- how many terms each subgoal has, at the front of an area
  pub record BodyWidths (before after : List ℕ) (n : ℕ) : Type 0 where
    pub count : (most : ℕ) (r : Rule ℕ) → Layout arities most bytes r → n ≡ length r.body
    pub widths : (most : ℕ) (r : Rule ℕ) → Layout arities most bytes r → after ≡ at_front (widths_of r.body) before
