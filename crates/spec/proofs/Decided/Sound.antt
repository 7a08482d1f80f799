-- What reading grants of the admitted summaries: refusal 7, "a rule isn't safe", has not been given.
use mathlib.Core.Path.{◌≡◌}
use mathlib.Core.Option.{some}
use Prim.Native.Nat.{ℕ}
use Rattle.spec.specs.Words.{Rule, Safe}
use Rattle.spec.specs.Summaries.{Summaries, summary}

abbrev pub AllSafe : Summaries → Type 0
AllSafe s = (n : ℕ) (r : Rule ℕ) → summary s n ≡ some r → Safe r
