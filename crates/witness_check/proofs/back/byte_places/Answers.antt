use mathlib.Core.Path.{refl}
use native.Mathlib.Omega.{arith}
use Rattle.witness_check.proofs.WayBack.Storing.{bytes-start, bytes-more, bytes-end}
use Rattle.witness_check.proofs.back.byte_places.Goals as goal

pub loop-i-init : goal.loop-i-init
loop-i-init c = (omega arith, bytes-start _ _ refl)

pub bounds-ks-i : goal.bounds-ks-i
bounds-ks-i c = omega (arith, c.requires, c.loop-i-test.true)

pub loop-i-preserved : goal.loop-i-preserved
loop-i-preserved c =
    let t = c.loop-i-test.true in
    let l = c.loop-i in
    (omega arith, bytes-more _ _ l.ks _ (omega (arith, c.requires)) l.invariant.1 (let f = c.in_ok-ks.ensures in omega (arith, f.0, f.1)))

pub returns-in_err-ks : goal.returns-in_err-ks
returns-in_err-ks c = rw c.from_residual.ensures (c.loop-i.i, c.loop-i-test.true, omega (arith, c.in_err-ks.ensures))

pub returns : goal.returns
returns c = bytes-end _ _ _ _ c.loop-i-test.false c.loop-i.invariant.1
