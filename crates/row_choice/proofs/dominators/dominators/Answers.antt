use mathlib.Core.Path.{sym}
use native.Mathlib.Omega.{arith}
use lib.Seq.{length-take-le}
use Rattle.book_codes.proofs.Growing.{row-there, rows-room}
use Rattle.row_choice.proofs.RowSteps.{row-against, row-dominators}
use Rattle.row_choice.proofs.dominators.dominators.Goals as goal

pub slice_bounds-kept_use-count : goal.slice_bounds-kept_use-count
slice_bounds-kept_use-count c = omega (arith, rows-room c.requires.0)

pub slice_bounds-kept_use-start : goal.slice_bounds-kept_use-start
slice_bounds-kept_use-start c = omega (arith, rows-room c.requires.0)

pub kept_use-goals-requires : goal.kept_use-goals-requires
kept_use-goals-requires c = let p = c.requires in (row-there p.0 _ p.2, omega arith, omega arith)

pub overflow_mul-source : goal.overflow_mul-source
overflow_mul-source c = omega (arith, (c.kept_use-goals.ensures.0 0).few)

pub slice_bounds-source-end : goal.slice_bounds-source-end
slice_bounds-source-end c = omega (arith, (c.kept_use-goals.ensures.0 0).few)

pub slice_bounds-those_over-end : goal.slice_bounds-those_over-end
slice_bounds-those_over-end c = sym (length-take-le _ _ (omega (arith, (c.kept_use-goals.ensures.0 0).few)))

pub slice_bounds-widths-end : goal.slice_bounds-widths-end
slice_bounds-widths-end c = omega (arith, (c.kept_use-goals.ensures.0 0).few)

pub slice_bounds-those_over-end-2 : goal.slice_bounds-those_over-end-2
slice_bounds-those_over-end-2 c = sym (length-take-le _ _ (omega (arith, (c.kept_use-goals.ensures.0 0).few)))

pub those_over-requires : goal.those_over-requires
those_over-requires c =
    let p = c.requires in
    let u = c.kept_use-goals.ensures in
    row-against p.0 p.2 u.0 u.1 p.1 p.3

pub returns : goal.returns
returns c =
    let p = c.requires in
    let u = c.kept_use-goals.ensures in
    row-dominators p.0 p.2 u.0 u.1 p.1 p.3 c.those_over.ensures
