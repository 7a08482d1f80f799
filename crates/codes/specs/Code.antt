-- Terms and subgoals as the codes that the search reads. A subgoal is nine codes: its relation and eight terms, of which the first few count.
use Rattle.std.specs.Prelude.{List, [], ◌∷◌, ◌++◌, map, ℕ, zero, suc, ◌+◌, ◌*◌, length}
use Rattle.spec.specs.Words.{Term, var, con, Subgoal}
use Rattle.spec.specs.Summaries.{Own, old, fresh}
use Rattle.spec.specs.RuleLayout.{variables}
use Rattle.spec.specs.BookLayout.{question_most, summary_most, most_arity}
use Rattle.spec.specs.Table.{most_rows}

-- A code of a target is a tag, in units of 2^32, and a number: 1 a variable, 2 a constant, 3 a use's own variable. So codes sort as terms do, and none is 0.
abbrev pub variable_tag : ℕ
variable_tag = 4294967296

abbrev pub constant_tag : ℕ
constant_tag = 8589934592

abbrev pub fresh_tag : ℕ
fresh_tag = 12884901888

-- a term of the question
abbrev pub term_code : Term ℕ → ℕ
term_code (var x) = variable_tag + x
term_code (con c) = constant_tag + c

-- a term of an expansion; uses are numbered from 0, a use has variables 0 to 31
abbrev pub own_code : Term (Own ℕ) → ℕ
own_code (var (old x)) = variable_tag + x
own_code (var (fresh u x)) = fresh_tag + (variables * u + x)
own_code (con c) = constant_tag + c

-- slots for the variables that all uses share, and behind them for those of the current use
abbrev pub most_slots : ℕ
most_slots = 2 * variables

-- A code of a source is a slot, below 64, or a constant's code. A rule's own variables are slots 0 to 31.
abbrev pub slot_code : Term ℕ → ℕ
slot_code (var x) = x
slot_code (con c) = constant_tag + c

-- In an expansion as a source, the list's variables are slots 0 to 31, and the current use's own are 32 to 63.
abbrev pub own_slot : Term (Own ℕ) → ℕ
own_slot (var (old x)) = x
own_slot (var (fresh u x)) = variables + x
own_slot (con c) = constant_tag + c

-- One use as a source that keeps the list's terms as they are: those are codes of a target, and the use's own variables are slots.
abbrev pub kept_slot : Term (Own ℕ) → ℕ
kept_slot (var (old x)) = variable_tag + x
kept_slot (var (fresh u x)) = x
kept_slot (con c) = constant_tag + c

-- A subgoal is nine codes: its relation, and as many terms as the widest relation has.
abbrev pub subgoal_size : ℕ
subgoal_size = 9

-- so many codes have a question's subgoals at most, a summary's, and so many subgoals all uses of a rewriting and of the summary rows
abbrev pub question_codes : ℕ
question_codes = subgoal_size * question_most

abbrev pub summary_codes : ℕ
summary_codes = subgoal_size * summary_most

abbrev pub uses_goals : ℕ
uses_goals = question_most * summary_most

abbrev pub rows_goals : ℕ
rows_goals = most_rows * summary_most

-- eight codes: those of the list, and 1 where it has ended
abbrev pub padded : ℕ → List ℕ → List ℕ
padded zero l = []
padded (suc n) [] = 1 ∷ padded n []
padded (suc n) (x ∷ l) = x ∷ padded n l

abbrev pub subgoal_codes : {A : Type 0} → (A → ℕ) → Subgoal A → List ℕ
subgoal_codes code g = g.relation ∷ padded most_arity (map code g.terms)

abbrev pub codes_of : {A : Type 0} → (A → ℕ) → List (Subgoal A) → List ℕ
codes_of code [] = []
codes_of code (g ∷ gs) = subgoal_codes code g ++ codes_of code gs

-- how many of a subgoal's eight terms count
abbrev pub widths_of : {A : Type 0} → List (Subgoal A) → List ℕ
widths_of gs = map (λ g. length g.terms) gs
