-- Any two results that meet the promise of this crate are equal.
use mathlib.Core.Path.{◌≡◌}
use mathlib.Core.List.{List}
use Prim.Native.Nat.{ℕ}
use Rattle.std.specs.Prelude.{Result}
use Rattle.spec.specs.Contents.{RightRelations}
use Rattle.spec.specs.Refusals.{Fault5}
use Rattle.spec.specs.declared.Refused.{Refused}
use Rattle.spec.specs.declared.Refused.TheVariants.{Relations}
use Rattle.contents.specs.Entries.Steps.{StepSays}
use Rattle.contents.proofs.Unique.Entries.{step-unique}

-- `right_relations`
pub right-relations-unique : (book : List ℕ) (r s : Result Unit Refused) → StepSays (RightRelations book) (Fault5 book) Relations r → StepSays (RightRelations book) (Fault5 book) Relations s → r ≡ s
right-relations-unique book = step-unique (RightRelations book) Relations
