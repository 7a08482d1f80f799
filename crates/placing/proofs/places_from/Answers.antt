use Rattle.placing.proofs.Verdicts.{answer-places}
use Rattle.placing.proofs.places_from.Goals as goal

pub returns : goal.returns
returns c = rw c.ok.ensures.value (answer-places _ c.args.task.now.sized _ _ _ c.place.ensures)
