use Rattle.placing.proofs.Verdicts.{places-mapped}
use Rattle.placing.proofs.first_places.Goals as goal

pub returns : goal.returns
returns c = places-mapped _ _ _ c.places_from.ensures
