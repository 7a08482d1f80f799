use mathlib.Core.Path.{◌≡◌}
use lib.ListN.{length}
use Rattle.summary_rows.specs.FixedPlaces.{fixing}
use Rattle.summary_rows.proofs.RowTask.fixed.Given as goal

abbrev pub invariant-loop-i : goal.invariant-loop-i
invariant-loop-i l = (length l.g ≡ 64) × (l.g ≡ fixing l.self.task.source.now l.self.task.target.now l.ks l.i)
