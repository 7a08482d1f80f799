-- Stored rows that are just what the admitted summaries' definitions yield, and stored rows that are not: one table, settled by computation.
use mathlib.Core.Path.{◌≡◌, refl}
use mathlib.Core.Bool.{Bool, true, false}
use mathlib.Core.Option.{some, none}
use mathlib.Core.List.{List, [], ◌∷◌, map}
use Prim.Native.Nat.{ℕ}
use Rattle.spec.specs.Words.{◌∈◌, Subgoal, Listed}
use Rattle.spec.specs.Summaries.{Summaries, HoldJust}
use Rattle.spec.proofs.Lists.Tests.{passes, fails}
use Rattle.spec.proofs.Lists.Gathered.{same_map}
use Rattle.spec.proofs.Decided.Safety.{all_safe-sound}
use Rattle.spec.proofs.Examples.Written.{x0, x1, rule, on}
use Rattle.spec.proofs.Examples.FactExamples.{fact}
use Rattle.spec.proofs.Decided.HeldTest.{just_held, held-sound, held-complete}

-- 1: (A) from 0(A,B); 2 is left out; 3: (B,A) from 0(A,B), 1(B)
abbrev three : Summaries
three = some (rule (x0 ∷ []) (on 0 (x0 ∷ x1 ∷ []) ∷ [])) ∷ none ∷ some (rule (x1 ∷ x0 ∷ []) (on 0 (x0 ∷ x1 ∷ []) ∷ on 1 (x1 ∷ []) ∷ [])) ∷ []

-- on them 1 yields (4) and (6), 3 yields (5,4)
abbrev facts : List (Subgoal ℕ)
facts = fact 0 (4 ∷ 5 ∷ []) ∷ fact 0 (4 ∷ 7 ∷ []) ∷ fact 0 (6 ∷ 8 ∷ []) ∷ fact 1 (5 ∷ []) ∷ []

pub record HeldCase : Type 0 where
  pub facts : List (Subgoal ℕ)
  pub stored : List (Subgoal ℕ)
  pub expected : Bool

abbrev case : List (Subgoal ℕ) → List (Subgoal ℕ) → Bool → HeldCase
case facts stored expected = record { facts = facts; stored = stored; expected = expected }

unfoldable pub held_cases : List HeldCase
held_cases =
    -- just the rows, in any order, and one of them twice: stored rows are a set
    case facts (fact 1 (4 ∷ []) ∷ fact 1 (6 ∷ []) ∷ fact 3 (5 ∷ 4 ∷ []) ∷ []) true
    ∷ case facts (fact 3 (5 ∷ 4 ∷ []) ∷ fact 1 (6 ∷ []) ∷ fact 1 (4 ∷ []) ∷ fact 1 (6 ∷ []) ∷ []) true
    -- rows under the number of a summary left out, of none, or past the last have no say
    ∷ case facts (fact 1 (4 ∷ []) ∷ fact 1 (6 ∷ []) ∷ fact 3 (5 ∷ 4 ∷ []) ∷ fact 2 (4 ∷ []) ∷ fact 0 (1 ∷ []) ∷ fact 4 (1 ∷ []) ∷ []) true
    -- one row too many
    ∷ case facts (fact 1 (4 ∷ []) ∷ fact 1 (6 ∷ []) ∷ fact 1 (5 ∷ []) ∷ fact 3 (5 ∷ 4 ∷ []) ∷ []) false
    -- one too few, of the first summary and of the last
    ∷ case facts (fact 1 (4 ∷ []) ∷ fact 3 (5 ∷ 4 ∷ []) ∷ []) false
    ∷ case facts (fact 1 (4 ∷ []) ∷ fact 1 (6 ∷ []) ∷ []) false
    -- the head's order turned
    ∷ case facts (fact 1 (4 ∷ []) ∷ fact 1 (6 ∷ []) ∷ fact 3 (4 ∷ 5 ∷ []) ∷ []) false
    -- the facts themselves, under the summaries' numbers
    ∷ case facts (fact 1 (4 ∷ 5 ∷ []) ∷ fact 1 (4 ∷ 7 ∷ []) ∷ fact 1 (6 ∷ 8 ∷ []) ∷ fact 3 (5 ∷ 4 ∷ []) ∷ []) false
    -- nothing stored: not for these facts, but where there are none
    ∷ case facts [] false
    ∷ case [] [] true
    ∷ []

abbrev computed : HeldCase → Bool
computed c = just_held three c.facts c.stored

told : map computed held_cases ≡ map (λ c. c.expected) held_cases
unfolding held_cases
told = refl

-- What that says of each case, in the words of the definition.
abbrev pub HeldMeant : HeldCase → Bool → Type 0
HeldMeant c true = HoldJust three (Listed c.facts) (Listed c.stored)
HeldMeant c false = HoldJust three (Listed c.facts) (Listed c.stored) → ⊥

pub held-meant : (c : HeldCase) → c ∈ held_cases → HeldMeant c c.expected
held-meant c m = go c.expected (same_map computed (λ c. c.expected) held_cases told c m)
  where
    go : (b : Bool) → computed c ≡ b → HeldMeant c b
    go true e = held-sound three c.facts c.stored (all_safe-sound three tt) (passes e)
    go false e = λ h. fails e (held-complete three c.facts c.stored h)
