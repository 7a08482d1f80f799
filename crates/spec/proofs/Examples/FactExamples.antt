-- What rules yield on facts of numbers, and what they do not: one table, settled by computation.
use mathlib.Core.Path.{◌≡◌, refl}
use mathlib.Core.Bool.{Bool, true, false}
use mathlib.Core.List.{List, [], ◌∷◌, map}
use Prim.Native.Nat.{ℕ}
use Rattle.spec.specs.Words.{◌∈◌, con, var, Subgoal, Rule, Listed, Yields, itself}
use Rattle.spec.proofs.Lists.Tests.{passes, fails}
use Rattle.spec.proofs.Decided.Equal.{eq_number}
use Rattle.spec.proofs.Lists.Gathered.{same_map}
use Rattle.spec.proofs.Decided.Decide.{yields, yields-sound, yields-complete}
use Rattle.spec.proofs.Examples.Written.{x0, x1, x2, rule, on}

abbrev pub fact : ℕ → List ℕ → Subgoal ℕ
fact n row = record { relation = n; terms = row }

-- A rule, a row, and whether the rule yields the row on the facts.
pub record FactCase : Type 0 where
  pub facts : List (Subgoal ℕ)
  pub asked : Rule ℕ
  pub row : List ℕ
  pub expected : Bool

abbrev case : List (Subgoal ℕ) → Rule ℕ → List ℕ → Bool → FactCase
case facts asked row expected = record { facts = facts; asked = asked; row = row; expected = expected }

-- two streets, 1 to 2 and 2 to 3, and the numbers 2 and 3
abbrev streets : List (Subgoal ℕ)
streets = fact 0 (1 ∷ 2 ∷ []) ∷ fact 0 (2 ∷ 3 ∷ []) ∷ fact 1 (2 ∷ []) ∷ fact 1 (3 ∷ []) ∷ []

-- (X0,X2) from 0(X0,X1), 0(X1,X2)
abbrev path : Rule ℕ
path = rule (x0 ∷ x2 ∷ []) (on 0 (x0 ∷ x1 ∷ []) ∷ on 0 (x1 ∷ x2 ∷ []) ∷ [])

-- (X0) from 0(X0,X1), 1(X1)
abbrev leading : Rule ℕ
leading = rule (x0 ∷ []) (on 0 (x0 ∷ x1 ∷ []) ∷ on 1 (x1 ∷ []) ∷ [])

unfoldable pub fact_cases : List FactCase
fact_cases =
    -- both subgoals become facts, and X1 is one number in both
    case streets path (1 ∷ 3 ∷ []) true
    ∷ case streets path (1 ∷ 2 ∷ []) false
    ∷ case streets path (3 ∷ 1 ∷ []) false
    -- the row is as long as the head
    ∷ case streets path (1 ∷ []) false
    ∷ case streets path (1 ∷ 3 ∷ 3 ∷ []) false
    -- more rows than one; every subgoal counts, the last too
    ∷ case streets leading (1 ∷ []) true
    ∷ case streets leading (2 ∷ []) true
    ∷ case streets leading (3 ∷ []) false
    ∷ case (fact 0 (1 ∷ 2 ∷ []) ∷ []) leading (1 ∷ []) false
    -- a constant is itself, in the body and in the head
    ∷ case streets (rule (x0 ∷ []) (on 0 (x0 ∷ con 3 ∷ []) ∷ [])) (2 ∷ []) true
    ∷ case streets (rule (x0 ∷ []) (on 0 (x0 ∷ con 3 ∷ []) ∷ [])) (1 ∷ []) false
    ∷ case streets (rule (con 7 ∷ x0 ∷ []) (on 1 (x0 ∷ []) ∷ [])) (7 ∷ 3 ∷ []) true
    ∷ case streets (rule (con 7 ∷ x0 ∷ []) (on 1 (x0 ∷ []) ∷ [])) (0 ∷ 3 ∷ []) false
    -- a variable that stands twice is one number
    ∷ case streets (rule [] (on 0 (x0 ∷ x0 ∷ []) ∷ [])) [] false
    ∷ case (fact 0 (5 ∷ 5 ∷ []) ∷ []) (rule [] (on 0 (x0 ∷ x0 ∷ []) ∷ [])) [] true
    -- two variables may be one number
    ∷ case (fact 0 (5 ∷ 5 ∷ []) ∷ []) path (5 ∷ 5 ∷ []) true
    -- no head: the empty row or none
    ∷ case streets (rule [] (on 1 (x0 ∷ []) ∷ [])) [] true
    ∷ case streets (rule [] (on 1 (x0 ∷ []) ∷ [])) (2 ∷ []) false
    ∷ case streets (rule [] (on 2 (x0 ∷ []) ∷ [])) [] false
    -- a fact of another length, and no facts
    ∷ case streets (rule [] (on 0 (x0 ∷ []) ∷ [])) [] false
    ∷ case [] (rule [] (on 1 (x0 ∷ []) ∷ [])) [] false
    -- a head variable that stands nowhere in the body may be any number
    ∷ case streets (rule (var 9 ∷ []) (on 1 (x0 ∷ []) ∷ [])) (1000 ∷ []) true
    ∷ []

abbrev computed : FactCase → Bool
computed c = yields eq_number eq_number itself c.asked c.facts c.row

told : map computed fact_cases ≡ map (λ c. c.expected) fact_cases
unfolding fact_cases
told = refl

-- What that says of each case, in the words of the definition.
abbrev pub FactMeant : FactCase → Bool → Type 0
FactMeant c true = Yields itself c.asked (Listed c.facts) c.row
FactMeant c false = Yields itself c.asked (Listed c.facts) c.row → ⊥

pub facts-meant : (c : FactCase) → c ∈ fact_cases → FactMeant c c.expected
facts-meant c m = go c.expected (same_map computed (λ c. c.expected) fact_cases told c m)
  where
    go : (b : Bool) → computed c ≡ b → FactMeant c b
    go true e = yields-sound eq_number eq_number itself c.asked c.facts c.row (passes e)
    go false e = λ y. fails e (yields-complete eq_number eq_number itself c.asked c.facts c.row y)
