-- What a step of the loading says, case by case.
use Rattle.std.specs.Prelude.{◌≡◌, Result, Ok, Err}
use Rattle.spec.specs.declared.Refused.{Refused}

-- What it looked for holds, or the fault does, and the refusal is that of its row.
abbrev pub StepSays : Type 0 → Type 0 → Refused → Result Unit Refused → Type 0
StepSays right fault row (Ok _) = right
StepSays right fault row (Err e) = fault × (e ≡ row)
