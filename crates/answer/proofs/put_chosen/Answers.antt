use native.Mathlib.Omega.{arith}
use lib.Seq.{length-take-le}
use Rattle.answer.proofs.ChosenLaws.{pickable, puts}
use Rattle.answer.proofs.put_chosen.Goals as goal

pub pick-requires : goal.pick-requires
pick-requires c = let f = c.requires.found.few in pickable c.requires (length-take-le _ _ (omega arith)) (length-take-le _ _ (omega arith))

pub put_all-requires : goal.put_all-requires
put_all-requires c = puts c.requires c.pick.ensures.0 c.pick.ensures.1
