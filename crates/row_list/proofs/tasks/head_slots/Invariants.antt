use mathlib.Core.Path.{◌≡◌}
use Prim.Native.Nat.{◌≤◌}
use lib.ListN.{length}
use Rattle.row_list.proofs.SlotSteps.{SlotsSoFar}
use Rattle.row_list.proofs.tasks.head_slots.Given as goal

abbrev pub invariant-loop-i : goal.invariant-loop-i
invariant-loop-i l = SlotsSoFar l.summary.bytes.now l.i l.slots × (length l.slots ≡ 8) × (l.i-end ≤ 8)
