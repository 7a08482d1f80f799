use Rattle.checker.proofs.Yes.{few, confirmed}
use Rattle.checker.proofs.check_sound.Goals as goal

pub confirms-requires : goal.confirms-requires
confirms-requires c = few c.propose.ensures c.requires c.in-Some.is

pub returns : goal.returns
returns c = confirmed c.propose.ensures c.requires c.in-Some.is c.confirms.ensures
