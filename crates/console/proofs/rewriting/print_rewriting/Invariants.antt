-- No subgoal is far from the answer's start.
use Rattle.std.proofs.Common.{◌+◌, ◌*◌, ◌≤◌}
use Rattle.console.proofs.rewriting.print_rewriting.Given as goal

abbrev pub invariant-loop : goal.invariant-loop
invariant-loop g l = (l.subgoals ≤ 255) × (l.at ≤ 1277 + 1276 * l.counter)
