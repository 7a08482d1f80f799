use Rattle.task.specs.Held.{task_of}
use Rattle.task.proofs.Going.{PlacesFollowed}
use Rattle.task.proofs.pass.follows.Given as goal

abbrev pub invariant-loop-i : goal.invariant-loop-i
invariant-loop-i l = PlacesFollowed (task_of l.task) l.initial.g l.ks l.i l.g
