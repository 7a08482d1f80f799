use mathlib.Core.Path.{◌∙◌}
use native.Mathlib.Omega.{arith}
use Rattle.rule_codes.proofs.RuleLaid.{laid, laid-over}
use Rattle.rule_codes.proofs.Walks.{walk-goes}
use Rattle.rule_codes.proofs.SoFar.{codes-go, codes-end}
use Rattle.rule_codes.proofs.WalkSteps.{goals-there, relation-there, next-there, goal-there, codes-there}
use Rattle.rule_codes.proofs.Body.put_subgoals.Goals as goal

pub arity_at-requires : goal.arity_at-requires
arity_at-requires c = relation-there (laid-over c.args.self.now.laid) c.goal_count-goals.ensures c.loop-i-test.true c.loop-i.invariant.walked

pub overflow_mul-i : goal.overflow_mul-i
overflow_mul-i c = omega (arith, goals-there (laid-over c.args.self.now.laid) c.goal_count-goals.ensures)

pub put_subgoal-requires : goal.put_subgoal-requires
put_subgoal-requires c =
    let w = laid-over c.args.self.now.laid in
    let n = c.goal_count-goals.ensures in
    (goal-there w n c.loop-i-test.true c.loop-i.invariant.walked (c.from-arity.ensures ∙ c.arity_at.ensures), omega (arith, goals-there w n))

pub overflow_add-at-in-loop-i : goal.overflow_add-at-in-loop-i
overflow_add-at-in-loop-i c = let g = next-there (laid-over c.args.self.now.laid) c.goal_count-goals.ensures c.loop-i-test.true c.loop-i.invariant.walked (c.from-arity.ensures ∙ c.arity_at.ensures) in omega arith

pub loop-i-preserved : goal.loop-i-preserved
loop-i-preserved c =
    let w = laid-over c.args.self.now.laid in
    let n = c.goal_count-goals.ensures in
    let l = c.loop-i.invariant in
    let t = c.loop-i-test.true in
    let e = c.from-arity.ensures ∙ c.arity_at.ensures in
    record { walked = walk-goes n t l.walked _ e; written = codes-go n (omega (arith, goals-there w n)) l.written t (codes-there w n t l.walked e c.put_subgoal.ensures) }

pub returns : goal.returns
returns c = codes-end c.goal_count-goals.ensures (omega (arith, goals-there (laid-over c.args.self.now.laid) c.goal_count-goals.ensures)) c.loop-i.invariant.written c.loop-i-test.false

pub goal_count-goals-requires : goal.goal_count-goals-requires
goal_count-goals-requires c = laid c.args.self.now.laid

pub first_goal-at-requires : goal.first_goal-at-requires
first_goal-at-requires c = laid c.args.self.now.laid
