use Rattle.rule_codes.proofs.HeadSteps.{head-there, head-coded}
use Rattle.rule_codes.proofs.heads.head_codes.Goals as goal

pub padded_codes-requires : goal.padded_codes-requires
padded_codes-requires c = head-there c.head_count.ensures c.requires

pub returns : goal.returns
returns c = head-coded c.head_count.ensures c.base_table.ensures c.padded_codes.ensures
