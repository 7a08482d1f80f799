use Rattle.first_shortest.proofs.Dropped.{pruned-enough}
use Rattle.first_shortest.proofs.RowSearch.can.Goals as goal

pub returns : goal.returns
returns c = pruned-enough c.pruned-kept.ensures c.args.self.now.posed c.enough.ensures
