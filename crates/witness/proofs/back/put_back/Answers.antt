use mathlib.Core.Path.{sym}
use native.Mathlib.Omega.{arith}
use lib.Seq.{length-take-le}
use Rattle.book_codes.proofs.Expanded.{rows-given, few-goals, codes-long, widths-kept, ends-kept}
use Rattle.witness.proofs.BackServing.{from-serving, back-told}
use Rattle.witness.proofs.back.put_back.Goals as goal

pub expand_back-goals-requires : goal.expand_back-goals-requires
expand_back-goals-requires c =
    let w = c.requires in
    (rows-given w.0.some, w.0.some.is.few, (let f = w.0.some.is.few in omega arith), (let f = w.0.some.is.few in omega arith), (let f = w.0.some.is.few in omega arith))

pub overflow_mul-source : goal.overflow_mul-source
overflow_mul-source c =
    let expand-back = c.expand_back-goals in
    let w = c.requires in
    omega (arith, few-goals expand-back.ensures.0 w.0.some)

pub slice_bounds-source-end : goal.slice_bounds-source-end
slice_bounds-source-end c =
    let expand-back = c.expand_back-goals in
    let w = c.requires in
    let n = few-goals expand-back.ensures.0 w.0.some in omega (arith, codes-long expand-back.ensures.0 w.0.some (omega arith) expand-back.ensures.1)

pub slice_bounds-back_from-end : goal.slice_bounds-back_from-end
slice_bounds-back_from-end c =
    let expand-back = c.expand_back-goals in
    let w = c.requires in
    let n = few-goals expand-back.ensures.0 w.0.some in sym (length-take-le _ _ (omega (arith, codes-long expand-back.ensures.0 w.0.some (omega arith) expand-back.ensures.1)))

pub slice_bounds-widths-end : goal.slice_bounds-widths-end
slice_bounds-widths-end c =
    let expand-back = c.expand_back-goals in
    let w = c.requires in
    let n = few-goals expand-back.ensures.0 w.0.some in omega (arith, widths-kept expand-back.ensures.0 w.0.some (omega arith) expand-back.ensures.2)

pub slice_bounds-back_from-end-2 : goal.slice_bounds-back_from-end-2
slice_bounds-back_from-end-2 c =
    let expand-back = c.expand_back-goals in
    let w = c.requires in
    let n = few-goals expand-back.ensures.0 w.0.some in sym (length-take-le _ _ (omega (arith, widths-kept expand-back.ensures.0 w.0.some (omega arith) expand-back.ensures.2)))

pub slice_bounds-lasts-end : goal.slice_bounds-lasts-end
slice_bounds-lasts-end c =
    let expand-back = c.expand_back-goals in
    let w = c.requires in
    let n = few-goals expand-back.ensures.0 w.0.some in omega (arith, ends-kept expand-back.ensures.0 w.0.some (omega arith) expand-back.ensures.3)

pub slice_bounds-back_from-end-3 : goal.slice_bounds-back_from-end-3
slice_bounds-back_from-end-3 c =
    let expand-back = c.expand_back-goals in
    let w = c.requires in
    let n = few-goals expand-back.ensures.0 w.0.some in sym (length-take-le _ _ (omega (arith, ends-kept expand-back.ensures.0 w.0.some (omega arith) expand-back.ensures.3)))

pub back_from-requires : goal.back_from-requires
back_from-requires c =
    let expand-back = c.expand_back-goals in
    let w = c.requires in
    (from-serving expand-back.ensures.0 expand-back.ensures.1 expand-back.ensures.2 expand-back.ensures.3 w.0, w.1)

pub returns : goal.returns
returns c =
    let back_from = c.back_from in
    let expand-back = c.expand_back-goals in
    back-told expand-back.ensures.0 expand-back.ensures.1 expand-back.ensures.2 expand-back.ensures.3 back_from.ensures
