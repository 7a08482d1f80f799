-- No more readings are sound than there were.
use Rattle.std.proofs.Common.{◌≤◌}
use Rattle.sound.proofs.read_repeatedly.Given as goal

abbrev pub invariant-loop-turn : goal.invariant-loop-turn
invariant-loop-turn l = l.sound ≤ l.turn
