use Rattle.placing.proofs.Verdicts.{answer-enough}
use Rattle.placing.proofs.enough.Goals as goal

pub returns : goal.returns
returns c = rw c.is_ok.ensures.value (answer-enough _ _ _ _ _ _ c.place.ensures)
