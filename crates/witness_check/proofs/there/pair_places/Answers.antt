use mathlib.Core.Path.{refl}
use native.Mathlib.Omega.{arith}
use Rattle.witness_check.proofs.WayThere.Storing.{pairs_start, pairs-more, pairs_end}
use Rattle.witness_check.proofs.there.pair_places.Goals as goal

pub loop-i-init : goal.loop-i-init
loop-i-init c = (omega arith, pairs_start _ _ _ _ refl)

pub overflow_mul-i : goal.overflow_mul-i
overflow_mul-i c = let w = c.requires in omega (arith, w.1, c.loop-i-test.true)

pub bounds-witness-i : goal.bounds-witness-i
bounds-witness-i c = let w = c.requires in omega (arith, w.2, c.loop-i-test.true)

pub overflow_mul-i-in-loop-i : goal.overflow_mul-i-in-loop-i
overflow_mul-i-in-loop-i c = let w = c.requires in omega (arith, w.1, c.loop-i-test.true)

pub overflow_add-i : goal.overflow_add-i
overflow_add-i c = let w = c.requires in omega (arith, w.1, c.loop-i-test.true)

pub bounds-witness-i-in-loop-i : goal.bounds-witness-i-in-loop-i
bounds-witness-i-in-loop-i c = let w = c.requires in omega (arith, w.2, c.loop-i-test.true)

pub place_of-requires : goal.place_of-requires
place_of-requires c = let w = c.requires in w.0

pub bounds-ks-i : goal.bounds-ks-i
bounds-ks-i c = let w = c.requires in omega (arith, w.1, c.loop-i-test.true)

pub loop-i-preserved : goal.loop-i-preserved
loop-i-preserved c =
    let w = c.requires in
    let t = c.loop-i-test.true in
    let l = c.loop-i in
    (omega arith, pairs-more _ _ _ _ l.ks _ (omega (arith, w.1)) l.invariant.1 (c.in_ok-ks.ensures))

pub returns-in_err-ks : goal.returns-in_err-ks
returns-in_err-ks c = rw c.from_residual.ensures (c.loop-i.i, c.loop-i-test.true, c.in_err-ks.ensures)

pub returns : goal.returns
returns c = pairs_end _ _ _ _ _ _ c.loop-i-test.false c.loop-i.invariant.1
