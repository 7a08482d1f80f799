use mathlib.Core.Path.{◌∙◌}
use Rattle.answer.proofs.RuleStores.{term-put}
use Rattle.answer.proofs.rule_bytes.put_term.Goals as goal

pub returns : goal.returns
returns c = term-put c.args.out.now c.args.at c.args.code c.requires _ _ c.tag_byte.ensures (c.copy_from_slice.ensures.after ∙ c.to_le_bytes.ensures)
