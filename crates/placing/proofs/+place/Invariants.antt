use mathlib.Core.Path.{◌≡◌}
use Prim.Native.Nat.{◌-◌}
use Rattle.task.specs.Task.{goals}
use Rattle.task.specs.Held.{task_of}
use Rattle.task.proofs.Guess.{Guess}
use Rattle.placing.proofs.Refuted.{Refuted}
use Rattle.placing.proofs.+place.Given as goal

-- the number of subgoals still unplaced falls
abbrev pub decreases-place : goal.decreases-place
decreases-place l = goals (task_of l.task.now) - l.at

-- the terms so far agree
abbrev pub invariant-loop-a : goal.invariant-loop-a
invariant-loop-a l = (l.why ≡ l.initial.why) × Guess (task_of l.task) l.b l.at l.k l.a l.g l.new

-- the targets so far are refuted
abbrev pub invariant-candidates : goal.invariant-candidates
invariant-candidates l = Refuted (task_of l.task) l.at l.b l.rows l.why l.k
