use Rattle.answer.proofs.RuleStores.{tag-variable, tag-constant}
use Rattle.answer.proofs.rule_bytes.tag_byte.Goals as goal

pub returns-then-code-lt-CONSTANT : goal.returns-then-code-lt-CONSTANT
returns-then-code-lt-CONSTANT c = tag-variable c.args.code c.if-code-lt-CONSTANT.true

pub returns-else-code-lt-CONSTANT : goal.returns-else-code-lt-CONSTANT
returns-else-code-lt-CONSTANT c = tag-constant c.args.code c.if-code-lt-CONSTANT.false
