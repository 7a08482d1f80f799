use Rattle.codes.specs.Code.{slot_code}
use Rattle.rule_codes.specs.Codes.{based}
use Rattle.rule_codes.proofs.CodeLaws.{based-slot, recoded}
use Rattle.rule_codes.proofs.Body.slot_codes.Goals as goal

pub returns : goal.returns
returns c = (recoded (based 0) slot_code (λ t h. based-slot t) c.body_codes.ensures.0, c.body_codes.ensures.1)
