use Rattle.rule_codes.proofs.UseLaws.{as_own}
use Rattle.rule_codes.proofs.Body.own_codes.Goals as goal

pub returns : goal.returns
returns c = as_own _ (c.use_codes.ensures _)
