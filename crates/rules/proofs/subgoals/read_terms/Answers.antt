use Rattle.std.proofs.Common.{rules}
use Rattle.rules.proofs.Runs.{terms, many-is}
use Rattle.rules.proofs.subgoals.read_terms.Goals as goal

pub returns : goal.returns
returns c = let a = c.args in many-is terms a.body.now _ (λ front r e. search rules) a.k a.from _ c.requires c.read_many.ensures
