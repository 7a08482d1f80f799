use mathlib.Core.Path.{refl}
use native.Mathlib.Omega.{arith}
use Rattle.witness_check.proofs.WayThere.Placing.{no_place, no_row, no_inner, past-use, in_use}
use Rattle.witness_check.proofs.there.place_of.Goals as goal

pub returns-then-of-lt1 : goal.returns-then-of-lt1
returns-then-of-lt1 c =
    let if1 = c.if-of-lt1 in
    no_row _ _ _ _ if1.true

pub returns-then-k-of : goal.returns-then-k-of
returns-then-k-of c =
    let if2 = c.if-k-of in
    no_place _ _ _ _ if2.true

pub returns-then-within-lt1 : goal.returns-then-within-lt1
returns-then-within-lt1 c =
    let if3 = c.if-within-lt1 in
    no_inner _ _ _ _ if3.true

pub offset_bounds-starts-of : goal.offset_bounds-starts-of
offset_bounds-starts-of c =
    let w = c.requires in
    omega (arith, w)

pub bounds-starts-of : goal.bounds-starts-of
bounds-starts-of c =
    let if2 = c.if-k-of in
    let if1 = c.if-of-lt1 in
    let w = c.requires in
    omega (arith, if2.false, if1.false, w)

pub overflow_add-place : goal.overflow_add-place
overflow_add-place c =
    omega arith

pub offset_bounds-starts-of-2 : goal.offset_bounds-starts-of-2
offset_bounds-starts-of-2 c =
    let w = c.requires in
    omega (arith, w)

pub bounds-starts-of-2 : goal.bounds-starts-of-2
bounds-starts-of-2 c =
    let if2 = c.if-k-of in
    let w = c.requires in
    omega (arith, if2.false, w)

pub overflow_cast-result : goal.overflow_cast-result
overflow_cast-result c =
    let if4 = c.if-place-starts in
    omega (arith, if4.true)

pub returns-then-place-starts : goal.returns-then-place-starts
returns-then-place-starts c =
    let if4 = c.if-place-starts in
    let if3 = c.if-within-lt1 in
    let if2 = c.if-k-of in
    let if1 = c.if-of-lt1 in
    in_use _ _ _ _ _ _ refl refl if1.false if2.false if3.false if4.true

pub returns : goal.returns
returns c =
    let if4 = c.if-place-starts in
    past-use _ _ _ _ _ _ refl refl if4.false
