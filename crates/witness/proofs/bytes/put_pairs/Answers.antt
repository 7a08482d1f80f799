use mathlib.Core.Path.{◌≡◌, refl, ap, ◌∙◌}
use Prim.Native.Nat.{◌+◌, ◌*◌}
use native.Mathlib.Omega.{arith}
use lib.ListN.{length, get_or, set, length-set}
use lib.Seq.{sets, length-sets}
use Rattle.witness.specs.WitnessBytes.{pair_bytes}
use Rattle.witness.proofs.WitnessStores.{pair-stored}
use Rattle.witness.proofs.bytes.put_pairs.Goals as goal

pub loop-i-init : goal.loop-i-init
loop-i-init c = (omega arith, refl, refl)

pub offset_bounds-ks-i : goal.offset_bounds-ks-i
offset_bounds-ks-i c = let w = c.requires in let a = c.args in let l = c.loop-i in let r = w.room in let f = w.few in omega arith

pub bounds-ks-i : goal.bounds-ks-i
bounds-ks-i c = let w = c.requires in let a = c.args in let l = c.loop-i in let r = w.room in let f = w.few in omega arith

pub overflow_cast-k : goal.overflow_cast-k
overflow_cast-k c = let w = c.requires in let a = c.args in let l = c.loop-i in let r = w.room in let f = w.few in omega (arith, (w.targets l.i (omega arith)).0)

pub bounds-own-k : goal.bounds-own-k
bounds-own-k c = let w = c.requires in let a = c.args in let l = c.loop-i in let r = w.room in let f = w.few in (w.targets l.i (omega arith)).0

pub overflow_add-out : goal.overflow_add-out
overflow_add-out c = let w = c.requires in let a = c.args in let l = c.loop-i in let r = w.room in let f = w.few in omega (arith, (w.bytes (get_or a.ks.now l.i 0)).0)

pub overflow_mul-out : goal.overflow_mul-out
overflow_mul-out c = let w = c.requires in let a = c.args in let l = c.loop-i in let r = w.room in let f = w.few in omega arith

pub bounds-out-i : goal.bounds-out-i
bounds-out-i c = let w = c.requires in let a = c.args in let l = c.loop-i in let r = w.room in let f = w.few in omega arith

pub bounds-inner-k : goal.bounds-inner-k
bounds-inner-k c = let w = c.requires in let a = c.args in let l = c.loop-i in let r = w.room in let f = w.few in (w.targets l.i (omega arith)).1

pub overflow_add-out-in-loop-i : goal.overflow_add-out-in-loop-i
overflow_add-out-in-loop-i c = let w = c.requires in let a = c.args in let l = c.loop-i in let r = w.room in let f = w.few in omega (arith, (w.bytes (get_or a.ks.now l.i 0)).1)

pub overflow_mul-out-in-loop-i : goal.overflow_mul-out-in-loop-i
overflow_mul-out-in-loop-i c = let w = c.requires in let a = c.args in let l = c.loop-i in let r = w.room in let f = w.few in omega arith

pub overflow_add-out-in-loop-i-2 : goal.overflow_add-out-in-loop-i-2
overflow_add-out-in-loop-i-2 c = let w = c.requires in let a = c.args in let l = c.loop-i in let r = w.room in let f = w.few in omega arith

pub bounds-out-i-in-loop-i : goal.bounds-out-i-in-loop-i
bounds-out-i-in-loop-i c = let w = c.requires in let a = c.args in let l = c.loop-i in let r = w.room in let f = w.few in simp length-set (omega arith)

pub loop-i-preserved : goal.loop-i-preserved
loop-i-preserved c =
    let w = c.requires in let a = c.args in let l = c.loop-i in let r = w.room in let f = w.few in
    let stored = ap (λ o. set (set o (2 * l.i) (get_or a.own.now (get_or a.ks.now l.i 0) 0 + 1)) (2 * l.i + 1) (get_or a.inner.now (get_or a.ks.now l.i 0) 0 + 1)) l.invariant.2 ∙ pair-stored a.ks.now a.own.now a.inner.now a.out.now l.i in
    (omega arith, ap length stored ∙ length-sets a.out.now 0 (pair_bytes a.ks.now a.own.now a.inner.now 0 (l.i + 1)), stored)

pub returns : goal.returns
returns c =
    let a = c.args in
    let l = c.loop-i in
    let e : l.i ≡ a.n = omega arith in
    l.invariant.2 ∙ ap (λ n. sets a.out.now 0 (pair_bytes a.ks.now a.own.now a.inner.now 0 n)) e

pub shape_of-out : goal.shape_of-out
shape_of-out c =
    c.loop-i.invariant.1
