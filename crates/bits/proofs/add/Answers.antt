use Rattle.bits.proofs.Laws.{with-is}
use Rattle.bits.proofs.add.Goals as goal

pub returns : goal.returns
returns c = with-is c.args.set c.args.x c.requires
