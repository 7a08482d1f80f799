-- What is promised of a rule's head.
use Rattle.std.specs.Prelude.{◌≡◌, List, map, ℕ, get_or}
use Rattle.spec.specs.Words.{◌∈◌, var, Rule}
use Rattle.spec.specs.RuleLayout.{Layout, most_head}
use Rattle.codes.specs.Code.{term_code, padded}

module _ (bytes : List ℕ) where
  pub record HeadCodes (codes : List ℕ) : Type 0 where
    pub is : (arities : List ℕ) (most : ℕ) (r : Rule ℕ) → Layout arities most bytes r → codes ≡ padded most_head (map term_code r.head)

  -- a head variable is bound to its own code, any other slot to none
  pub record HeadBindings (bound : List ℕ) : Type 0 where
    pub shown : (arities : List ℕ) (most : ℕ) (r : Rule ℕ) → Layout arities most bytes r → (x : ℕ) → var x ∈ r.head → get_or bound x 0 ≡ term_code (var x)
    pub other : (arities : List ℕ) (most : ℕ) (r : Rule ℕ) → Layout arities most bytes r → (x : ℕ) → (var x ∈ r.head → ⊥) → get_or bound x 0 ≡ 0
