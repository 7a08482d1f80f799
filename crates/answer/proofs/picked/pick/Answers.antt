use mathlib.Core.Path.{ap, ap₂, ◌∙◌}
use Prim.Native.Nat.{◌*◌}
use native.Mathlib.Omega.{arith}
use lib.ListN.{get_or, set}
use lib.Seq.{sets}
use Rattle.answer.specs.Picked.{row_codes}
use Rattle.answer.proofs.Picks.{picked-stored, widths-stored, row-put, row-width, width-small, picked-all}
use Rattle.answer.proofs.picked.pick.Goals as goal

pub overflow_cast-widths : goal.overflow_cast-widths
overflow_cast-widths c = let r = get_or c.args.rows.now c.loop-i.i 0 in omega (arith, width-small c.args.codes.now r, row-width c.args.codes.now r (rw c.from-from.ensures at c.width_in.ensures))

pub loop-i-preserved : goal.loop-i-preserved
loop-i-preserved c =
    let a = c.args in
    let l = c.loop-i in
    let turn = c.loop-i-test.true in
    let w = c.requires in
    let room = w.room in
    let r = get_or a.rows.now l.i 0 in
    record {
      codes = row-put a.codes.now r l.out (9 * l.i) (w.stand l.i turn) (omega arith) _ (rw c.from-from.ensures at c.copy_from_slice.ensures.after) ∙ ap (λ o. sets o (9 * l.i) (row_codes a.codes.now r)) l.invariant.codes ∙ picked-stored a.codes.now a.rows.now l.i turn a.out.now w.stand;
      widths = ap₂ (λ o n. set o l.i n) l.invariant.widths (row-width a.codes.now r (rw c.from-from.ensures at c.width_in.ensures)) ∙ widths-stored a.codes.now a.rows.now l.i turn a.widths.now;
    }

pub returns : goal.returns
returns c =
    let l = c.loop-i in
    let w = c.requires in
    picked-all c.args.codes.now c.args.rows.now l.i (omega arith) w.stand _ _ w.room w.told l.invariant.codes l.invariant.widths
