use mathlib.Core.Path.{refl, ap, ◌∙◌}
use native.Mathlib.Omega.{arith}
use mir.Val.{bool_byte}
use Rattle.lookahead.proofs.Looking.{serving-start, serving-more, serving-end, member-small, member-held}
use Rattle.lookahead.proofs.Wants.count.Goals as goal

pub loop-x-init : goal.loop-x-init
loop-x-init c = serving-start _ _ c.requires.long

pub overflow_add-many : goal.overflow_add-many
overflow_add-many c =
    let x = c.loop-x.x in
    omega (arith, c.requires.below x, c.loop-x.invariant.rest x (omega arith), c.from.ensures ∙ ap bool_byte c.holds.ensures ∙ member-held _ _, member-small c.args.rows x)

pub loop-x-preserved : goal.loop-x-preserved
loop-x-preserved c = rw (c.from.ensures ∙ ap bool_byte c.holds.ensures ∙ member-held _ _) (serving-more _ _ _ _ c.loop-x-test.true c.loop-x.invariant)

pub returns : goal.returns
returns c = serving-end _ _ _ _ _ c.loop-x-test.false c.loop-x.invariant
