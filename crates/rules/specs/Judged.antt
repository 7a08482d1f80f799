-- What is said of a rule's bytes: each case of the verdict, with the paper's number.
use Rattle.std.specs.Prelude.{◌≡◌, Bool, true, List, ℕ, Result, Ok, Err}
use Rattle.spec.specs.Words.{Rule, Safe, DistinctVariables}
use Rattle.spec.specs.RuleLayout.{Layout}
use Rattle.spec.proofs.Bytes.RuleReading.{bad, read_rule}
use Rattle.spec.proofs.Bytes.RuleReading as reading
use Rattle.rules.specs.declared.subgoals.Fault.{Fault}
use Rattle.rules.specs.declared.subgoals.Fault.TheVariants.{Count, Relation, Tag, Variable, Early, Over}
use Rattle.rules.specs.declared.Defect.{Defect}
use Rattle.rules.specs.declared.Defect.TheVariants.{Broken, Unsafe, Repeats}

-- "a rule breaks its layout: ends early, bytes over, a count, relation, tag or variable out of range"
abbrev pub fault_says : Fault → reading.Fault
fault_says Count = reading.bad_count
fault_says Relation = reading.bad_relation
fault_says Tag = reading.bad_tag
fault_says Variable = reading.bad_variable
fault_says Early = reading.early
fault_says Over = reading.over

-- The paper's number for each way to break the layout: 6, today.
abbrev pub fault_number : Fault → ℕ
fault_number Count = 6
fault_number Relation = 6
fault_number Tag = 6
fault_number Variable = 6
fault_number Early = 6
fault_number Over = 6

-- The paper's number for each defect; a sound rule has none.
abbrev pub refusal_number : Defect → ℕ
refusal_number (Broken f) = fault_number f
refusal_number Unsafe = 7
refusal_number Repeats = 8

module _ (arities : List ℕ) (most : ℕ) (summary : Bool) (bytes : List ℕ) where
  -- The bytes are the layout of a sound rule.
  pub record IsSound : Type 0 where
    pub rule : Rule ℕ
    pub layout : Layout arities most bytes rule
    pub safe : Safe rule
    pub plain : summary ≡ true → DistinctVariables rule.head

  -- The bytes are the layout of no rule within the bounds; read from the front, this is the first fault.
  pub record IsBroken (f : Fault) : Type 0 where
    pub none : (r : Rule ℕ) → Layout arities most bytes r → ⊥
    pub first : read_rule arities most bytes ≡ bad (fault_says f)

  -- "a rule isn't safe"
  pub record IsUnsafe : Type 0 where
    pub rule : Rule ℕ
    pub layout : Layout arities most bytes rule
    pub not_safe : Safe rule → ⊥

  -- "a summary's head holds a constant or a variable twice", in a rule that is safe
  pub record IsRepeating : Type 0 where
    pub is_summary : summary ≡ true
    pub rule : Rule ℕ
    pub layout : Layout arities most bytes rule
    pub safe : Safe rule
    pub not_plain : DistinctVariables rule.head → ⊥

  abbrev pub Judged : Result Unit Defect → Type 0
  Judged (Ok _) = IsSound
  Judged (Err (Broken f)) = IsBroken f
  Judged (Err Unsafe) = IsUnsafe
  Judged (Err Repeats) = IsRepeating
