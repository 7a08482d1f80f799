-- Bodies read as a rule: which fault is the first, by computation. The arities are 1 and 2, and a rule may have 3 subgoals.
use mathlib.Core.Path.{◌≡◌, refl}
use mathlib.Core.List.{List, [], ◌∷◌, map}
use Prim.Native.Nat.{ℕ}
use Rattle.spec.specs.Words.{Rule, con}
use Rattle.spec.proofs.Examples.Written.{x0, x1, rule, on}
use Rattle.spec.proofs.Bytes.RuleReading.{Fault, bad_count, bad_relation, bad_tag, bad_variable, early, over, Read, got, bad, read_rule}

pub record ReadingCase : Type 0 where
  pub body : List ℕ
  pub expected : Read (Rule ℕ)

abbrev case : List ℕ → Read (Rule ℕ) → ReadingCase
case body expected = record { body = body; expected = expected }

abbrev faulty : List ℕ → Fault → ReadingCase
faulty body f = case body (bad f)

reading_cases : List ReadingCase
reading_cases =
    -- (X1) from 1(X1,258)
    case (1 ∷ 1 ∷ 0 ∷ 1 ∷ 0 ∷ 0 ∷ 0 ∷ 1 ∷ 0 ∷ 1 ∷ 0 ∷ 0 ∷ 0 ∷ 1 ∷ 2 ∷ 1 ∷ 0 ∷ 0 ∷ []) (got (rule (x1 ∷ []) (on 1 (x1 ∷ con 258 ∷ []) ∷ [])) [])
    -- () from 0(X0), 0(X1)
    ∷ case (0 ∷ 2 ∷ 0 ∷ 0 ∷ 0 ∷ 0 ∷ 0 ∷ 0 ∷ 0 ∷ 0 ∷ 1 ∷ 0 ∷ 0 ∷ 0 ∷ []) (got (rule [] (on 0 (x0 ∷ []) ∷ on 0 (x1 ∷ []) ∷ [])) [])
    -- the head's length is judged before there is a count, the count before there is a head
    ∷ faulty [] early
    ∷ faulty (9 ∷ []) bad_count
    ∷ faulty (8 ∷ []) early
    ∷ faulty (8 ∷ 0 ∷ []) bad_count
    ∷ faulty (8 ∷ 4 ∷ []) bad_count
    ∷ faulty (8 ∷ 3 ∷ []) early
    -- a relation before its terms, a tag before its number, a variable behind it
    ∷ faulty (0 ∷ 1 ∷ 2 ∷ []) bad_relation
    ∷ faulty (0 ∷ 1 ∷ 1 ∷ []) early
    ∷ faulty (0 ∷ 1 ∷ 0 ∷ 2 ∷ []) bad_tag
    ∷ faulty (0 ∷ 1 ∷ 0 ∷ 0 ∷ 32 ∷ 0 ∷ 0 ∷ []) early
    ∷ faulty (0 ∷ 1 ∷ 0 ∷ 0 ∷ 32 ∷ 0 ∷ 0 ∷ 0 ∷ []) bad_variable
    ∷ faulty (0 ∷ 1 ∷ 0 ∷ 0 ∷ 31 ∷ 0 ∷ 0 ∷ 1 ∷ []) bad_variable
    -- the first fault: in the head before the body, in the first subgoal before the second
    ∷ faulty (1 ∷ 1 ∷ 2 ∷ 0 ∷ 0 ∷ 0 ∷ 0 ∷ 7 ∷ []) bad_tag
    ∷ faulty (0 ∷ 2 ∷ 0 ∷ 0 ∷ 99 ∷ 0 ∷ 0 ∷ 0 ∷ 7 ∷ []) bad_variable
    -- bytes over, past the last subgoal alone
    ∷ faulty (0 ∷ 1 ∷ 0 ∷ 0 ∷ 0 ∷ 0 ∷ 0 ∷ 0 ∷ 0 ∷ []) over
    ∷ []

told : map (λ c. read_rule (1 ∷ 2 ∷ []) 3 c.body) reading_cases ≡ map (λ c. c.expected) reading_cases
unfolding reading_cases
told = refl
