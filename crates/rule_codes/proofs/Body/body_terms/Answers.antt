use mathlib.Core.Path.{refl, sym}
use native.Mathlib.Omega.{arith}
use Rattle.rule_codes.proofs.RuleLaid.{question-laid}
use Rattle.rule_codes.proofs.QuestionTerms.{used-few, used-there, used-long, question-terms}
use Rattle.rule_codes.proofs.Body.body_terms.Goals as goal

pub put_subgoals-used-requires : goal.put_subgoals-used-requires
put_subgoals-used-requires c = omega (arith, c.requires)

pub overflow_mul-used : goal.overflow_mul-used
overflow_mul-used c = let f = used-few (question-laid c.args.self.now.laid c.requires.0 c.requires.1) c.base_table-table.ensures refl c.put_subgoals-used.ensures in omega arith

pub slice_bounds-codes-end : goal.slice_bounds-codes-end
slice_bounds-codes-end c = used-there (question-laid c.args.self.now.laid c.requires.0 c.requires.1) c.base_table-table.ensures refl c.put_subgoals-used.ensures

pub slice_bounds-ascending-end : goal.slice_bounds-ascending-end
slice_bounds-ascending-end c = sym (used-long (question-laid c.args.self.now.laid c.requires.0 c.requires.1) c.base_table-table.ensures refl c.put_subgoals-used.ensures)

pub returns : goal.returns
returns c = question-terms (question-laid c.args.self.now.laid c.requires.0 c.requires.1) c.base_table-table.ensures refl c.put_subgoals-used.ensures c.ascending.ensures
