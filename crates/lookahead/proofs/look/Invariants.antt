use Prim.Native.Nat.{◌≤◌}
use Rattle.task.specs.Held.{task_of}
use Rattle.lookahead.proofs.InVain.{Wanted}
use Rattle.lookahead.proofs.Counted.{WantsCounted}
use Rattle.lookahead.proofs.look.Given as goal

abbrev pub invariant-loop-i : goal.invariant-loop-i
invariant-loop-i l = record { from : l.at ≤ l.i; wanted : Wanted (task_of l.task) l.at l.b l.rows l.w l.i; counted : WantsCounted (task_of l.task) l.at l.b l.rows l.w l.i }
