use native.Mathlib.Omega.{arith}
use Rattle.rule_codes.proofs.Walks.{walk-starts, heads-few}
use Rattle.rule_codes.proofs.places.first_goal.Goals as goal

pub overflow_mul-result : goal.overflow_mul-result
overflow_mul-result c = omega (arith, heads-few c.head_count.ensures c.requires)

pub overflow_add-result : goal.overflow_add-result
overflow_add-result c = omega (arith, heads-few c.head_count.ensures c.requires)

pub returns : goal.returns
returns c = walk-starts c.head_count.ensures
