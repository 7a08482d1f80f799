-- What a step's answer says, once it is known which one it is.
use mathlib.Core.Path.{◌≡◌, subst}
use Rattle.std.specs.Prelude.{Result, Ok, Err}
use Rattle.spec.specs.declared.Refused.{Refused}
use Rattle.contents.specs.Entries.Steps.{StepSays}

pub passed : (right fault : Type 0) (row : Refused) (r : Result Unit Refused) → r ≡ Ok tt → StepSays right fault row r → right
passed right fault row r e = subst (StepSays right fault row) e

pub faulty : (right fault : Type 0) (row : Refused) (r : Result Unit Refused) (e : Refused) → r ≡ Err e → StepSays right fault row r → fault
faulty right fault row r e is says = (subst (StepSays right fault row) is says).0
