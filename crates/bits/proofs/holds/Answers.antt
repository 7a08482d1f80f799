use borrow.Author.Rules.{rules}
use Rattle.bits.specs.Sets.{has}
use Rattle.bits.proofs.holds.Goals as goal

pub returns : goal.returns
unfolding has
returns c = search rules
