use mathlib.Core.Path.{sym}
use native.Mathlib.Omega.{arith}
use lib.Seq.{length-take-le}
use Rattle.book_codes.proofs.Expanded.{rows-given, few-goals, codes-long, owners-kept, insides-kept}
use Rattle.witness.proofs.ThereServing.{onto-serving, there-told}
use Rattle.witness.proofs.there.put_there.Goals as goal

pub expand-goals-requires : goal.expand-goals-requires
expand-goals-requires c =
    let w = c.requires in
    (rows-given w.0.some, (let f = w.0.some.is.few in omega arith), (let f = w.0.some.is.few in omega arith), (let f = w.0.some.is.few in omega arith), (let f = w.0.some.is.few in omega arith))

pub overflow_mul-target : goal.overflow_mul-target
overflow_mul-target c =
    let expand = c.expand-goals in
    let w = c.requires in
    omega (arith, few-goals expand.ensures.0 w.0.some)

pub slice_bounds-target-end : goal.slice_bounds-target-end
slice_bounds-target-end c =
    let expand = c.expand-goals in
    let w = c.requires in
    let n = few-goals expand.ensures.0 w.0.some in omega (arith, codes-long expand.ensures.0 w.0.some (omega arith) expand.ensures.1)

pub slice_bounds-there_onto-end : goal.slice_bounds-there_onto-end
slice_bounds-there_onto-end c =
    let expand = c.expand-goals in
    let w = c.requires in
    let n = few-goals expand.ensures.0 w.0.some in sym (length-take-le _ _ (omega (arith, codes-long expand.ensures.0 w.0.some (omega arith) expand.ensures.1)))

pub slice_bounds-own-end : goal.slice_bounds-own-end
slice_bounds-own-end c =
    let expand = c.expand-goals in
    let w = c.requires in
    let n = few-goals expand.ensures.0 w.0.some in omega (arith, owners-kept expand.ensures.0 w.0.some (omega arith) expand.ensures.2)

pub slice_bounds-there_onto-end-2 : goal.slice_bounds-there_onto-end-2
slice_bounds-there_onto-end-2 c =
    let expand = c.expand-goals in
    let w = c.requires in
    let n = few-goals expand.ensures.0 w.0.some in sym (length-take-le _ _ (omega (arith, owners-kept expand.ensures.0 w.0.some (omega arith) expand.ensures.2)))

pub slice_bounds-inner-end : goal.slice_bounds-inner-end
slice_bounds-inner-end c =
    let expand = c.expand-goals in
    let w = c.requires in
    let n = few-goals expand.ensures.0 w.0.some in omega (arith, insides-kept expand.ensures.0 w.0.some (omega arith) expand.ensures.3)

pub slice_bounds-there_onto-end-3 : goal.slice_bounds-there_onto-end-3
slice_bounds-there_onto-end-3 c =
    let expand = c.expand-goals in
    let w = c.requires in
    let n = few-goals expand.ensures.0 w.0.some in sym (length-take-le _ _ (omega (arith, insides-kept expand.ensures.0 w.0.some (omega arith) expand.ensures.3)))

pub there_onto-requires : goal.there_onto-requires
there_onto-requires c =
    let expand = c.expand-goals in
    let w = c.requires in
    (onto-serving expand.ensures.0 expand.ensures.1 expand.ensures.2 expand.ensures.3 w.0, w.1)

pub returns : goal.returns
returns c =
    let there-onto = c.there_onto in
    let expand = c.expand-goals in
    there-told expand.ensures.0 expand.ensures.1 expand.ensures.2 expand.ensures.3 there-onto.ensures
