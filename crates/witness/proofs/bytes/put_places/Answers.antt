use mathlib.Core.Path.{◌≡◌, refl, ap, ◌∙◌}
use Prim.Native.Nat.{◌+◌, ◌%◌}
use native.Mathlib.Omega.{arith}
use lib.ListN.{length, get_or, set}
use lib.Seq.{sets, length-sets}
use Rattle.witness.specs.WitnessBytes.{place_bytes}
use Rattle.witness.proofs.WitnessStores.{place-stored}
use Rattle.witness.proofs.bytes.put_places.Goals as goal

pub loop-i-init : goal.loop-i-init
loop-i-init c = (omega arith, refl, refl)

pub loop-i-preserved : goal.loop-i-preserved
loop-i-preserved c =
    let w = c.requires in let a = c.args in let l = c.loop-i in let r = w.room in let f = w.few in
    let small = w.bytes l.i (omega arith) in
    let m : get_or a.ks.now l.i 0 % 255 ≡ get_or a.ks.now l.i 0 = omega arith in
    let stored = ap (λ x. set l.out (a.at + l.i) (x + 1)) m ∙ ap (λ o. set o (a.at + l.i) (get_or a.ks.now l.i 0 + 1)) l.invariant.2 ∙ place-stored a.ks.now a.out.now a.at l.i in
    (omega arith, ap length stored ∙ length-sets a.out.now a.at (place_bytes a.ks.now 0 (l.i + 1)), stored)

pub returns : goal.returns
returns c =
    let a = c.args in
    let l = c.loop-i in
    let e : l.i ≡ a.n = omega arith in
    l.invariant.2 ∙ ap (λ n. sets a.out.now a.at (place_bytes a.ks.now 0 n)) e

pub offset_bounds-ks-i : goal.offset_bounds-ks-i
offset_bounds-ks-i c =
    let w = c.requires in let a = c.args in let l = c.loop-i in let r = w.room in let f = w.few in omega arith

pub bounds-ks-i : goal.bounds-ks-i
bounds-ks-i c =
    let w = c.requires in let a = c.args in let l = c.loop-i in let r = w.room in let f = w.few in omega arith

pub overflow_cast-out : goal.overflow_cast-out
overflow_cast-out c =
    omega arith

pub overflow_add-out : goal.overflow_add-out
overflow_add-out c =
    omega arith

pub overflow_add-out-in-loop-i : goal.overflow_add-out-in-loop-i
overflow_add-out-in-loop-i c =
    let w = c.requires in let a = c.args in let l = c.loop-i in let r = w.room in let f = w.few in omega arith

pub bounds-out-at : goal.bounds-out-at
bounds-out-at c =
    let w = c.requires in let a = c.args in let l = c.loop-i in let r = w.room in let f = w.few in omega arith

pub shape_of-out : goal.shape_of-out
shape_of-out c =
    c.loop-i.invariant.1
