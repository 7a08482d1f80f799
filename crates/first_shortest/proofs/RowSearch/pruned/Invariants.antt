use Rattle.first_shortest.specs.Pruning.{Pruned}
use Rattle.first_shortest.proofs.RowSearch.pruned.Given as goal

abbrev pub invariant-loop-row : goal.invariant-loop-row
invariant-loop-row l = Pruned l.self.dominators l.self.n l.used l.may l.kept
