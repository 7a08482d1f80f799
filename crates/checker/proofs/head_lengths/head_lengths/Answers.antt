use mathlib.Core.Path.{refl}
use lib.ListN.{length-set}
use native.Mathlib.Omega.{arith}
use Rattle.checker.proofs.LengthLaws.{count_room, heads-start, count-few, next-summary, heads-go, heads-end}
use Rattle.checker.proofs.head_lengths.head_lengths.Goals as goal

pub count_of-n-requires : goal.count_of-n-requires
count_of-n-requires c =
    let w = c.requires in
    count_room w

pub loop-i-init : goal.loop-i-init
loop-i-init c =
    (omega arith, refl, heads-start _ _ refl)

pub head_at-requires : goal.head_at-requires
head_at-requires c =
    let loop-test = c.loop-i-test in
    let count_of = c.count_of-n in
    let w = c.requires in
    next-summary w count_of.ensures loop-test.true

pub bounds-table-i : goal.bounds-table-i
bounds-table-i c =
    let count_of = c.count_of-n in
    let w = c.requires in
    omega (arith, count-few w count_of.ensures)

pub loop-i-preserved : goal.loop-i-preserved
loop-i-preserved c =
    let head_at = c.head_at in
    let l = c.loop-i in
    let count_of = c.count_of-n in
    let w = c.requires in
    (omega arith, simp length-set l.invariant.1, heads-go l.invariant.2 (omega (arith, l.invariant.1, count-few w count_of.ensures)) head_at.ensures)

pub returns : goal.returns
returns c =
    let loop-test = c.loop-i-test in
    let l = c.loop-i in
    let count_of = c.count_of-n in
    let w = c.requires in
    heads-end w count_of.ensures loop-test.false l.invariant.2
