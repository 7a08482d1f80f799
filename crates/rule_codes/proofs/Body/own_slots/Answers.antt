use Rattle.rule_codes.proofs.UseLaws.{as-slots}
use Rattle.rule_codes.proofs.Body.own_slots.Goals as goal

pub returns : goal.returns
returns c = λ u. as-slots u (c.use_codes.ensures u)
