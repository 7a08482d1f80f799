use Rattle.rule_codes.proofs.UseLaws.{as-kept}
use Rattle.rule_codes.proofs.Body.kept_slots.Goals as goal

pub returns : goal.returns
returns c = λ u. as-kept u (c.use_codes.ensures u)
