use Rattle.std.proofs.lemmas.Nat.{and_mask}
use Rattle.bits.specs.Sets.{below32}
use Rattle.bits.proofs.low.Goals as goal

pub returns : goal.returns
unfolding below32
returns c = and_mask c.args.set 32
