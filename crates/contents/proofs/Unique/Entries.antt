-- Any two results that meet a promise of this crate are equal. For the functions whose promise names a number it is `number-unique` of the crate numbers.
use mathlib.Core.Path.{◌≡◌, refl, ap, sym, ◌∙◌}
use mathlib.Core.List.{List}
use Prim.Native.Nat.{ℕ}
use Rattle.std.specs.Prelude.{Result, Ok, Err}
use Rattle.spec.specs.Contents.{NoGaps}
use Rattle.spec.specs.Refusals.{Fault4}
use Rattle.spec.specs.declared.Refused.{Refused}
use Rattle.spec.specs.declared.Refused.TheVariants.{Contents}
use Rattle.contents.specs.Entries.Steps.{StepSays}

-- Each fault is that what the step looks for does not hold, so the two exclude each other.
pub step-unique : (right : Type 0) (row : Refused) (r s : Result Unit Refused) → StepSays right (right → ⊥) row r → StepSays right (right → ⊥) row s → r ≡ s
step-unique right row (Ok _) (Ok _) p q = refl
step-unique right row (Ok _) (Err e) p q = absurd (q.0 p)
step-unique right row (Err e) (Ok _) p q = absurd (p.0 q)
step-unique right row (Err e) (Err f) p q = ap Err (p.1 ∙ sym q.1)

-- `no_gaps`
pub no-gaps-unique : (book : List ℕ) (r s : Result Unit Refused) → StepSays (NoGaps book) (Fault4 book) Contents r → StepSays (NoGaps book) (Fault4 book) Contents s → r ≡ s
no-gaps-unique book = step-unique (NoGaps book) Contents
