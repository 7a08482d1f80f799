-- How a reading from the front becomes the answer of a whole rule.
use Rattle.std.specs.Prelude.{ℕ, Result, Ok, Err}
use Rattle.spec.specs.Words.{Rule}
use Rattle.spec.proofs.Bytes.RuleReading.{Read, got, bad}
use Rattle.rules.specs.Marked.{none, marks, goal_marks, fault_of}
use Rattle.rules.specs.declared.Notes.{Notes}
use Rattle.rules.specs.declared.subgoals.Fault.{Fault}

unfoldable pub whole_of : Read (Rule ℕ) → Result Notes Fault
whole_of (got r rest) = Ok (record { head = marks none r.head; body = goal_marks none r.body })
whole_of (bad f) = Err (fault_of f)
