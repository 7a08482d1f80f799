-- What the reader notes of terms on the way, and how a reading from the front becomes a step's answer.
use Rattle.std.specs.Prelude.{◌≡◌, true, false, ◌&&◌, not, List, [], ◌∷◌, ℕ, zero, suc, ◌-◌, length, Result, Ok, Err, MatchResult}
use Rattle.spec.specs.Words.{Term, var, con, Subgoal}
use Rattle.spec.proofs.Bytes.RuleReading.{Read, got, bad}
use Rattle.spec.proofs.Bytes.RuleReading as reading
use Rattle.bits.specs.Sets.{with, has}
use Rattle.rules.specs.declared.subgoals.Fault.{Fault}
use Rattle.rules.specs.declared.subgoals.Fault.TheVariants.{Count, Relation, Tag, Variable, Early, Over}
use Rattle.rules.specs.declared.subgoals.Marks.{Marks}
use Rattle.rules.specs.declared.subgoals.Front.{Front}

-- nothing noted yet
abbrev pub none : Marks
none = record { vars = 0; plain = true }

abbrev pub fresh : ℕ → Front
fresh place = record { at = place; notes = none }

-- a variable is noted; terms are plain while each is a variable not noted before
unfoldable pub mark : Marks → Term ℕ → Marks
mark m (var v) = record { vars = with m.vars v; plain = not (has m.vars v) && m.plain }
mark m (con c) = record { vars = m.vars; plain = false }

abbrev pub marks : Marks → List (Term ℕ) → Marks
marks m [] = m
marks m (t ∷ ts) = marks (mark m t) ts

abbrev pub of_goal : Marks → Subgoal (Term ℕ) → Marks
of_goal m g = marks m g.terms

abbrev pub goal_marks : Marks → List (Subgoal (Term ℕ)) → Marks
goal_marks m [] = m
goal_marks m (g ∷ gs) = goal_marks (of_goal m g) gs

-- each way to break the layout has its own case
abbrev pub fault_of : reading.Fault → Fault
fault_of reading.bad_count = Count
fault_of reading.bad_relation = Relation
fault_of reading.bad_tag = Tag
fault_of reading.bad_variable = Variable
fault_of reading.early = Early
fault_of reading.over = Over

-- a reading of a body of n bytes, as a step's answer
unfoldable pub stepped : {A : Type 0} → (A → Marks) → ℕ → Read A → Result Front Fault
stepped noted n (got a rest) = Ok (record { at = n - length rest; notes = noted a })
stepped noted n (bad f) = Err (fault_of f)

-- so many steps one after the other, each from where the one before it ended; the first fault ends them
abbrev pub Repeated : (Front → Result Front Fault → Type 0) → ℕ → Front → Result Front Fault → Type 0
Repeated Steps zero from r = r ≡ Ok from
Repeated Steps (suc k) from r = (s : Result Front Fault) × Steps from s × MatchResult s (λ next. Repeated Steps k next r) (λ f. r ≡ Err f)
