-- Answers with their witnesses in which the head decides, or that rows alone count: a question that is the same in two variables but for its head.
use mathlib.Core.Path.{◌≡◌, refl}
use mathlib.Core.Logic.{⊎_elim}
use mathlib.Core.Option.{some}
use mathlib.Core.List.{List, [], ◌∷◌, map}
use Prim.Native.Nat.{ℕ}
use native.Mathlib.Omega.{arith}
use Rattle.spec.specs.Words.{◌∈◌, Term, con, Subgoal, Rule}
use Rattle.spec.specs.Summaries.{Summaries}
use Rattle.spec.specs.Answer.{Rewrites}
use Rattle.spec.proofs.Lists.Gathered.{same_map}
use Rattle.spec.proofs.Decided.Safety.{all_safe-sound}
use Rattle.spec.proofs.Decided.Answered.{Answered, Right, answered, answered-is}
use Rattle.spec.proofs.Decided.WitnessTest.{back-sound}
use Rattle.spec.proofs.Examples.Written.{x0, x1, rule, on}

-- summary 1: (A) from 0(A)
abbrev pub single : Summaries
single = some (rule (x0 ∷ []) (on 0 (x0 ∷ []) ∷ [])) ∷ []

-- this head from 0(X0), 0(X1)
abbrev pub alike : List (Term ℕ) → Rule ℕ
alike head = rule head (on 0 (x0 ∷ []) ∷ on 0 (x1 ∷ []) ∷ [])

pub record AnswerCase : Type 0 where
  pub question : Rule ℕ
  pub expected : Answered

abbrev case : Rule ℕ → List (Subgoal (Term ℕ)) → List ℕ → List ℕ → AnswerCase
case question rows there back = record { question = question; expected = record { rows = rows; there = there; back = back } }

unfoldable pub answer_cases : List AnswerCase
answer_cases =
    -- without a head 1(X0) is enough
    case (alike []) (on 1 (x0 ∷ []) ∷ []) (1 ∷ 1 ∷ 1 ∷ 1 ∷ []) (1 ∷ [])
    -- with head (X1) it is 1(X1), and the way back goes to the second subgoal: to the first, X1 would become X0
    ∷ case (alike (x1 ∷ [])) (on 1 (x1 ∷ []) ∷ []) (1 ∷ 1 ∷ 1 ∷ 1 ∷ []) (2 ∷ [])
    -- with head (X1,X0) both are wanted, and the ways there and back keep them apart
    ∷ case (alike (x1 ∷ x0 ∷ [])) (on 1 (x0 ∷ []) ∷ on 1 (x1 ∷ []) ∷ []) (1 ∷ 1 ∷ 2 ∷ 1 ∷ []) (1 ∷ 2 ∷ [])
    -- a head's constant is kept and asks for no row
    ∷ case (alike (con 4 ∷ [])) (on 1 (x0 ∷ []) ∷ []) (1 ∷ 1 ∷ 1 ∷ 1 ∷ []) (1 ∷ [])
    -- rows alone count: of () from 0(X1), 1(X0) would be equivalent and earlier, but X0 is no term of the question
    ∷ case (rule [] (on 0 (x1 ∷ []) ∷ [])) (on 1 (x1 ∷ []) ∷ []) (1 ∷ 1 ∷ []) (1 ∷ [])
    ∷ []

told : map (λ c. answered single c.question) answer_cases ≡ map (λ c. some c.expected) answer_cases
unfolding answer_cases
told = refl

pub answers-meant : (c : AnswerCase) → c ∈ answer_cases → Right single c.question c.expected
answers-meant c m = (answered-is single c.question (all_safe-sound single tt) c.expected).0 (same_map (λ c. answered single c.question) (λ c. some c.expected) answer_cases told c m)

-- "Each of the two parts is the first": of the question without a head the second way back is one too, but later.
later-way-back : Right single (alike []) record { rows = on 1 (x0 ∷ []) ∷ []; there = 1 ∷ 1 ∷ 1 ∷ 1 ∷ []; back = 2 ∷ [] } → ⊥
later-way-back r =
    ⊎_elim (λ e. let z : ◌≡◌ {A = ℕ} 2 1 = cc in omega arith) (⊎_elim (λ h. omega arith) (λ w. omega (arith, w.0))) (r.returns.least (1 ∷ []) (back-sound single (alike []) (rule [] (on 1 (x0 ∷ []) ∷ [])) (1 ∷ []) tt))

-- "each list ascending"
turned_rows : Rewrites single (alike (x1 ∷ x0 ∷ [])) (on 1 (x1 ∷ []) ∷ on 1 (x0 ∷ []) ∷ []) → ⊥
turned_rows w = ⊎_elim (λ h. omega arith) (λ v. ⊎_elim (λ h. omega arith) (λ u. let z : ◌≡◌ {A = ℕ} 1 0 = cc u.0 in omega arith) v.1) w.ascending.0
