use Rattle.rule_codes.specs.Codes.{tabled, based}
use Rattle.rule_codes.proofs.CodeLaws.{tabled-based, recoded}
use Rattle.rule_codes.proofs.Body.body_codes.Goals as goal

pub returns : goal.returns
returns c =
    let w = recoded (tabled _) (based _) (tabled-based c.base_table.ensures) c.put_subgoals.ensures in
    (w, record { count = w.count; widths = c.put_widths.ensures.widths })
