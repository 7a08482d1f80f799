use native.Mathlib.Omega.{arith}
use Rattle.checker.proofs.AdmissionLaws.{admitted-start, admitted-go, admitted-not, admitted-all}
use Rattle.checker.proofs.tests.all_admitted.Goals as goal

pub loop-i-init : goal.loop-i-init
loop-i-init c =
    (omega arith, admitted-start)

pub overflow_mul-i : goal.overflow_mul-i
overflow_mul-i c =
    let w = c.requires in
    omega (arith, w.1)

pub offset_bounds-codes-i : goal.offset_bounds-codes-i
offset_bounds-codes-i c =
    let w = c.requires in
    omega (arith, w.1)

pub bounds-codes-i : goal.bounds-codes-i
bounds-codes-i c =
    let w = c.requires in
    omega (arith, w.1)

pub admits-requires : goal.admits-requires
admits-requires c =
    let w = c.requires in
    w.0

pub returns-then-not-admits : goal.returns-then-not-admits
returns-then-not-admits c =
    let admits = c.admits in
    let loop-test = c.loop-i-test in
    admitted-not admits.ensures loop-test.true c.if-not-admits.true

pub loop-i-preserved : goal.loop-i-preserved
loop-i-preserved c =
    let admits = c.admits in
    let l = c.loop-i in
    (omega arith, admitted-go admits.ensures l.invariant.1 c.if-not-admits.false)

pub returns : goal.returns
returns c =
    let loop-test = c.loop-i-test in
    let l = c.loop-i in
    admitted-all loop-test.false l.invariant.1
