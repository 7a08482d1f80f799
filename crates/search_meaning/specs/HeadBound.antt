-- What is bound at the start: the question's head.
use Rattle.std.specs.Prelude.{◌≡◌, List, ℕ, ◌+◌, get_or}
use Rattle.spec.specs.Words.{◌∈◌, Term, var}
use Rattle.codes.specs.Code.{variable_tag}
use Rattle.search_meaning.specs.Coded.{Bound}

-- The bindings at the start: each variable of the question's head is bound to itself, and nothing else is bound.
pub record HeadBound (head : List (Term ℕ)) (b : List ℕ) : Type 0 where
  pub bound : (x : ℕ) → var x ∈ head → get_or b x 0 ≡ variable_tag + x
  pub only : (x : ℕ) → Bound b x → var x ∈ head
