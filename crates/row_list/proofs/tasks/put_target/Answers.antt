use mathlib.Core.Path.{refl, sym}
use native.Mathlib.Omega.{arith}
use Rattle.rule_codes.proofs.RuleLaid.{question-laid}
use Rattle.row_list.proofs.TargetSteps.{terms-few, terms-long, shown-long, terms-room, target-part, target_room, target-goals, target-codes}
use Rattle.row_list.proofs.tasks.put_target.Goals as goal

pub slice_bounds-terms-end : goal.slice_bounds-terms-end
slice_bounds-terms-end c =
    let q = question-laid c.args.question.now.laid c.requires.0 c.requires.1 in let t = c.body_terms-count.ensures in
    omega (arith, terms-long q refl t, terms-few q refl t)

pub slice_bounds-put_alone-end : goal.slice_bounds-put_alone-end
slice_bounds-put_alone-end c =
    let q = question-laid c.args.question.now.laid c.requires.0 c.requires.1 in let t = c.body_terms-count.ensures in
    sym (shown-long q refl t)

pub put_alone-requires : goal.put_alone-requires
put_alone-requires c =
    let q = question-laid c.args.question.now.laid c.requires.0 c.requires.1 in let t = c.body_terms-count.ensures in
    terms-room q refl t c.requires.2

pub overflow_mul-count : goal.overflow_mul-count
overflow_mul-count c =
    let q = question-laid c.args.question.now.laid c.requires.0 c.requires.1 in let t = c.body_terms-count.ensures in
    omega (arith, terms-few q refl t)

pub offset_bounds-target-count : goal.offset_bounds-target-count
offset_bounds-target-count c =
    let q = question-laid c.args.question.now.laid c.requires.0 c.requires.1 in let t = c.body_terms-count.ensures in
    omega (arith, terms-few q refl t)

pub slice_bounds-term_codes-count : goal.slice_bounds-term_codes-count
slice_bounds-term_codes-count c =
    let q = question-laid c.args.question.now.laid c.requires.0 c.requires.1 in let t = c.body_terms-count.ensures in let e = c.put_alone.ensures in
    target-part q refl t _ _ c.requires.2 e

pub slice_bounds-term_codes-start : goal.slice_bounds-term_codes-start
slice_bounds-term_codes-start c =
    let q = question-laid c.args.question.now.laid c.requires.0 c.requires.1 in let t = c.body_terms-count.ensures in let e = c.put_alone.ensures in
    target-part q refl t _ _ c.requires.2 e

pub term_codes-requires : goal.term_codes-requires
term_codes-requires c =
    let q = question-laid c.args.question.now.laid c.requires.0 c.requires.1 in let t = c.body_terms-count.ensures in let e = c.put_alone.ensures in
    (target_room q refl t _ _ c.requires.2 e, omega (arith, c.requires.1))

pub overflow_add-result : goal.overflow_add-result
overflow_add-result c =
    let q = question-laid c.args.question.now.laid c.requires.0 c.requires.1 in let t = c.body_terms-count.ensures in let e = c.put_alone.ensures in
    omega (arith, target-goals q refl t _ _ c.requires.2 e c.term_codes.ensures.0)

pub returns : goal.returns
returns c =
    let q = question-laid c.args.question.now.laid c.requires.0 c.requires.1 in let t = c.body_terms-count.ensures in let e = c.put_alone.ensures in
    target-codes q refl t _ _ c.requires.2 e c.term_codes.ensures.0

pub body_terms-count-requires : goal.body_terms-count-requires
body_terms-count-requires c = (c.requires.0, c.requires.1, omega arith)
