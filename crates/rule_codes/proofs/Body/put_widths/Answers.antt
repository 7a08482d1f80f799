use mathlib.Core.Path.{◌≡◌, sym}
use Prim.Native.Nat.{ℕ, ◌<◌}
use native.Mathlib.Omega.{arith}
use lib.ListN.{length}
use lib.Seq.{length-take-le}
use Rattle.rule_codes.proofs.RuleLaid.{laid, laid-over}
use Rattle.rule_codes.proofs.Walks.{walk-goes}
use Rattle.rule_codes.proofs.SoFar.{widths-go, widths-end}
use Rattle.rule_codes.proofs.WalkSteps.{goals-there, relation-there, next-there, width-there}
use Rattle.rule_codes.proofs.Body.put_widths.Goals as goal

pub slice_bounds-width-items-end : goal.slice_bounds-width-items-end
slice_bounds-width-items-end c = omega (arith, goals-there (laid-over c.args.self.now.laid) c.goal_count-goals.ensures)

pub slice_bounds-width-items-end-2 : goal.slice_bounds-width-items-end-2
slice_bounds-width-items-end-2 c = sym (length-take-le _ _ (omega (arith, goals-there (laid-over c.args.self.now.laid) c.goal_count-goals.ensures)))

pub arity_at-requires : goal.arity_at-requires
arity_at-requires c =
    let n = goals-there (laid-over c.args.self.now.laid) c.goal_count-goals.ensures in
    relation-there (laid-over c.args.self.now.laid) c.goal_count-goals.ensures (omega (arith, length-take-le {A = ℕ})) c.loop-width.invariant.walked

pub overflow_add-at-in-loop-width : goal.overflow_add-at-in-loop-width
overflow_add-at-in-loop-width c =
    let n = goals-there (laid-over c.args.self.now.laid) c.goal_count-goals.ensures in
    let g = next-there (laid-over c.args.self.now.laid) c.goal_count-goals.ensures (omega (arith, length-take-le {A = ℕ})) c.loop-width.invariant.walked c.arity_at.ensures in
    omega arith

pub loop-width-preserved : goal.loop-width-preserved
loop-width-preserved c =
    let w = laid-over c.args.self.now.laid in
    let n = c.goal_count-goals.ensures in
    let fit = goals-there w n in
    let l = c.loop-width.invariant in
    let t : c.loop-width.width-index < c.goal_count-goals.result = omega (arith, length-take-le {A = ℕ}) in
    let e = c.arity_at.ensures in
    record {
      walked = rw c.from.ensures (walk-goes n t l.walked _ e);
      read = widths-go n (omega arith) l.read (width-there w n t l.walked e);
    }

pub returns : goal.returns
returns c =
    let n = goals-there (laid-over c.args.self.now.laid) c.goal_count-goals.ensures in
    let long : length c.loop-width.width-items ≡ c.goal_count-goals.result = omega (arith, length-take-le {A = ℕ}) in
    widths-end c.goal_count-goals.ensures _ long (omega arith) c.loop-width.invariant.read

pub goal_count-goals-requires : goal.goal_count-goals-requires
goal_count-goals-requires c = laid c.args.self.now.laid

pub first_goal-at-requires : goal.first_goal-at-requires
first_goal-at-requires c = laid c.args.self.now.laid
