use native.Mathlib.Omega.{arith}
use Rattle.rule_codes.proofs.TermSteps.{term-there, code-there}
use Rattle.rule_codes.proofs.places.padded_at.Goals as goal

pub overflow_mul-k : goal.overflow_mul-k
overflow_mul-k c = let t = term-there _ _ _ _ c.requires c.if-k-many.true in let r = t.here.room in omega arith

pub overflow_add-at : goal.overflow_add-at
overflow_add-at c = let t = term-there _ _ _ _ c.requires c.if-k-many.true in let r = t.here.room in omega arith

pub code_at-requires : goal.code_at-requires
code_at-requires c = term-there _ _ _ _ c.requires c.if-k-many.true

pub returns-then-k-many : goal.returns-then-k-many
returns-then-k-many c = code-there _ _ _ _ _ _ c.if-k-many.true c.code_at.ensures
