use Rattle.first_shortest.proofs.Steps.{chooses_none}
use Rattle.first_shortest.proofs.choose.Goals as goal

pub returns-in_err-k : goal.returns-in_err-k
returns-in_err-k c = rw c.from_residual.ensures (chooses_none c.in_err-k.ensures)
