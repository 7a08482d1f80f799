use Rattle.std.proofs.Common.{ap, ◌∙◌, rules}
use Rattle.spec.specs.Refresh.{leads_by, admitted}
use Rattle.admission.proofs.Signs.{tested}
use Rattle.admission.proofs.is_admitted.Goals as goal

pub returns : goal.returns
unfolding admitted
returns c = λ rule. tested c.lead_of.result _ _ c.is_some_and.ensures (λ z h. search rules) ∙ ap leads_by c.lead_of.ensures
