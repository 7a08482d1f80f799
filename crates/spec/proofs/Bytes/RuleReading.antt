-- A rule read from the front of its bytes: what is read and what is left, or the first fault.
-- Scaffolding: that a rule is read exactly where the bytes are its layout is proved in RuleLaws. What a reader gets from here is which fault
-- is the first.
use mathlib.Core.Bool.{cond}
use mathlib.Core.List.{List, [], ◌∷◌}
use Prim.Native.Nat.{ℕ, zero, suc, ◌+◌, ◌*◌}
use lib.Dec.{ltb, leb, eqb}
use lib.ListN.{length, get_or}
use Rattle.spec.specs.Words.{Term, var, con, Subgoal, Rule}

-- The ways to break the layout: "ends early, bytes over, a count, relation, tag or variable out of range".
pub data Fault : Type 0 where
  bad_count : Fault
  bad_relation : Fault
  bad_tag : Fault
  bad_variable : Fault
  early : Fault
  over : Fault

-- "The first fault ends the reading."
pub data Read (A : Type 0) : Type 0 where
  got : A → List ℕ → Read A
  bad : Fault → Read A

abbrev pub and_then : {A B : Type 0} → Read A → (A → List ℕ → Read B) → Read B
and_then (got a rest) next = next a rest
and_then (bad f) next = bad f

-- A number of that many bytes.
abbrev pub read_number : ℕ → List ℕ → Read ℕ
read_number zero bs = got 0 bs
read_number (suc many) [] = bad early
read_number (suc many) (b ∷ bs) = and_then (read_number many bs) (λ n rest. got (b + 256 * n) rest)

abbrev pub as_variable : ℕ → List ℕ → Read (Term ℕ)
as_variable v rest = cond (ltb v 32) (got (var v) rest) (bad bad_variable)

abbrev pub as_constant : ℕ → List ℕ → Read (Term ℕ)
as_constant c rest = got (con c) rest

-- The tag's own byte is judged before the number behind it.
abbrev pub read_tagged : ℕ → List ℕ → Read (Term ℕ)
read_tagged tag bs = cond (eqb tag 0) (and_then (read_number 4 bs) as_variable) (cond (eqb tag 1) (and_then (read_number 4 bs) as_constant) (bad bad_tag))

abbrev pub read_term : List ℕ → Read (Term ℕ)
read_term [] = bad early
read_term (tag ∷ bs) = read_tagged tag bs

-- So many of a kind, one after the other.
abbrev pub read_many : {A : Type 0} → (List ℕ → Read A) → ℕ → List ℕ → Read (List A)
read_many one zero bs = got [] bs
read_many one (suc k) bs = and_then (one bs) (λ a rest. and_then (read_many one k rest) (λ l end. got (a ∷ l) end))

abbrev pub as_subgoal : ℕ → List (Term ℕ) → List ℕ → Read (Subgoal (Term ℕ))
as_subgoal r ts rest = got (record { relation = r; terms = ts }) rest

abbrev pub read_subgoal : List ℕ → List ℕ → Read (Subgoal (Term ℕ))
read_subgoal arities [] = bad early
read_subgoal arities (r ∷ bs) = cond (ltb r (length arities)) (and_then (read_many read_term (get_or arities r 0) bs) (as_subgoal r)) (bad bad_relation)

abbrev pub as_rule : List (Term ℕ) → List (Subgoal (Term ℕ)) → List ℕ → Read (Rule ℕ)
as_rule head body [] = got (record { head = head; body = body }) []
as_rule head body (b ∷ bs) = bad over

abbrev pub read_body : List ℕ → ℕ → List (Term ℕ) → List ℕ → Read (Rule ℕ)
read_body arities goals head bs = and_then (read_many (read_subgoal arities) goals bs) (as_rule head)

abbrev pub read_head : List ℕ → ℕ → ℕ → List ℕ → Read (Rule ℕ)
read_head arities heads goals bs = and_then (read_many read_term heads bs) (read_body arities goals)

abbrev pub read_goals : List ℕ → ℕ → ℕ → List ℕ → Read (Rule ℕ)
read_goals arities most heads [] = bad early
read_goals arities most heads (goals ∷ bs) = cond (ltb 0 goals) (cond (leb goals most) (read_head arities heads goals bs) (bad bad_count)) (bad bad_count)

abbrev pub read_rule : List ℕ → ℕ → List ℕ → Read (Rule ℕ)
read_rule arities most [] = bad early
read_rule arities most (heads ∷ bs) = cond (leb heads 8) (read_goals arities most heads bs) (bad bad_count)
