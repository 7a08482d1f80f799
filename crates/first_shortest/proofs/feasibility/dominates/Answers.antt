use Rattle.first_shortest.proofs.Uses.{tells}
use Rattle.first_shortest.proofs.feasibility.dominates.Goals as goal

pub returns : goal.returns
returns c = rw c.is_some.ensures (tells c.first_places.result c.first_places.ensures)
