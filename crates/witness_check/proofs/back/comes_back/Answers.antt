use mathlib.Core.Path.{sym}
use native.Mathlib.Omega.{arith}
use lib.Seq.{length-take-le}
use Rattle.book_codes.proofs.Expanded.{rows-given, few-goals, codes-long, widths-kept, ends-kept}
use Rattle.book_codes.proofs.Sourced.{from-of, from}
use Rattle.witness_check.proofs.back.comes_back.Goals as goal

pub expand_back-goals-requires : goal.expand_back-goals-requires
expand_back-goals-requires c =
    let w = c.requires in
    (rows-given w, w.is.few, (let f = w.is.few in omega arith), (let f = w.is.few in omega arith), (let f = w.is.few in omega arith))

pub overflow_mul-source : goal.overflow_mul-source
overflow_mul-source c =
    let expand-back = c.expand_back-goals in
    let w = c.requires in
    omega (arith, few-goals expand-back.ensures.0 w)

pub slice_bounds-source-end : goal.slice_bounds-source-end
slice_bounds-source-end c =
    let expand-back = c.expand_back-goals in
    let w = c.requires in
    let n = few-goals expand-back.ensures.0 w in omega (arith, codes-long expand-back.ensures.0 w (omega arith) expand-back.ensures.1)

pub slice_bounds-back_along-end : goal.slice_bounds-back_along-end
slice_bounds-back_along-end c =
    let expand-back = c.expand_back-goals in
    let w = c.requires in
    let n = few-goals expand-back.ensures.0 w in sym (length-take-le _ _ (omega (arith, codes-long expand-back.ensures.0 w (omega arith) expand-back.ensures.1)))

pub slice_bounds-widths-end : goal.slice_bounds-widths-end
slice_bounds-widths-end c =
    let expand-back = c.expand_back-goals in
    let w = c.requires in
    let n = few-goals expand-back.ensures.0 w in omega (arith, widths-kept expand-back.ensures.0 w (omega arith) expand-back.ensures.2)

pub slice_bounds-back_along-end-2 : goal.slice_bounds-back_along-end-2
slice_bounds-back_along-end-2 c =
    let expand-back = c.expand_back-goals in
    let w = c.requires in
    let n = few-goals expand-back.ensures.0 w in sym (length-take-le _ _ (omega (arith, widths-kept expand-back.ensures.0 w (omega arith) expand-back.ensures.2)))

pub slice_bounds-lasts-end : goal.slice_bounds-lasts-end
slice_bounds-lasts-end c =
    let expand-back = c.expand_back-goals in
    let w = c.requires in
    let n = few-goals expand-back.ensures.0 w in omega (arith, ends-kept expand-back.ensures.0 w (omega arith) expand-back.ensures.3)

pub slice_bounds-back_along-end-3 : goal.slice_bounds-back_along-end-3
slice_bounds-back_along-end-3 c =
    let expand-back = c.expand_back-goals in
    let w = c.requires in
    let n = few-goals expand-back.ensures.0 w in sym (length-take-le _ _ (omega (arith, ends-kept expand-back.ensures.0 w (omega arith) expand-back.ensures.3)))

pub back_along-requires : goal.back_along-requires
back_along-requires c =
    let expand-back = c.expand_back-goals in
    let w = c.requires in
    from expand-back.ensures.0 expand-back.ensures.1 expand-back.ensures.2 expand-back.ensures.3 w

pub returns : goal.returns
returns c =
    let back-along = c.back_along in
    let expand-back = c.expand_back-goals in
    record { exactly = λ b l t. back-along.ensures.exactly b l (from-of expand-back.ensures.0 expand-back.ensures.1 expand-back.ensures.2 expand-back.ensures.3 b l t) }
