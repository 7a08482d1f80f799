use mathlib.Core.Path.{sym}
use native.Mathlib.Omega.{arith}
use lib.Seq.{length-take-le}
use Rattle.book_codes.proofs.Expanded.{rows-given, few-goals, codes-long, owners-kept}
use Rattle.witness_check.proofs.WayThere.Rowed.{stood, there-confirmed}
use Rattle.witness_check.proofs.there.goes_there.Goals as goal

pub expand-goals-requires : goal.expand-goals-requires
expand-goals-requires c =
    let w = c.requires in
    (rows-given w, (let f = w.is.few in omega arith), (let f = w.is.few in omega arith), (let f = w.is.few in omega arith), (let f = w.is.few in omega arith))

pub use_starts-requires : goal.use_starts-requires
use_starts-requires c =
    let w = c.requires in
    (rows-given w, (let f = w.is.few in omega arith), (let f = w.is.few in omega arith))

pub overflow_mul-target : goal.overflow_mul-target
overflow_mul-target c =
    let expand = c.expand-goals in
    let w = c.requires in
    omega (arith, few-goals expand.ensures.0 w)

pub slice_bounds-target-end : goal.slice_bounds-target-end
slice_bounds-target-end c =
    let expand = c.expand-goals in
    let w = c.requires in
    let n = few-goals expand.ensures.0 w in omega (arith, codes-long expand.ensures.0 w (omega arith) expand.ensures.1)

pub slice_bounds-there_along-end : goal.slice_bounds-there_along-end
slice_bounds-there_along-end c =
    let expand = c.expand-goals in
    let w = c.requires in
    let n = few-goals expand.ensures.0 w in sym (length-take-le _ _ (omega (arith, codes-long expand.ensures.0 w (omega arith) expand.ensures.1)))

pub slice_bounds-own-end : goal.slice_bounds-own-end
slice_bounds-own-end c =
    let expand = c.expand-goals in
    let w = c.requires in
    let n = few-goals expand.ensures.0 w in omega (arith, owners-kept expand.ensures.0 w (omega arith) expand.ensures.2)

pub slice_bounds-there_along-end-2 : goal.slice_bounds-there_along-end-2
slice_bounds-there_along-end-2 c =
    let expand = c.expand-goals in
    let w = c.requires in
    let n = few-goals expand.ensures.0 w in sym (length-take-le _ _ (omega (arith, owners-kept expand.ensures.0 w (omega arith) expand.ensures.2)))

pub there_along-requires : goal.there_along-requires
there_along-requires c =
    let use-starts = c.use_starts in
    let expand = c.expand-goals in
    let w = c.requires in
    stood expand.ensures.0 expand.ensures.1 expand.ensures.2 use-starts.ensures w

pub returns : goal.returns
returns c =
    let there-along = c.there_along in
    let use-starts = c.use_starts in
    let expand = c.expand-goals in
    there-confirmed expand.ensures.0 expand.ensures.1 expand.ensures.2 use-starts.ensures there-along.ensures
