use Rattle.std.proofs.Common.{◌-◌, rules, length, take, sym, ap, ◌∙◌, subst, le_refl}
use Rattle.std.proofs.KnownBytes.{Consumes-trans, Consumes-kept}
use Rattle.std.proofs.lemmas.Slice.{take-put_mid_below}
use Rattle.std.specs.Io.KnownBytes.{Consumes}
use borrow.Rule.Slice.PartMut.{put_mid}
use Rattle.console.proofs.Fills.{filled-more}
use Rattle.console.proofs.input.fill_room.Goals as goal
use Rattle.console.proofs.input.fill_room.Goals.{in-Ok, in-Err+else-ne}

pub loop-preserved : goal.loop-preserved
loop-preserved g c =
    let from = c.loop.filled in
    let room = c.loop.room in
    let part = c.read.new.buf in
    let within = c.loop.invariant.0 in
    let whole = put_mid from (length room - from) room part in
    elim c.match-read.branch [
      | in-Ok w ↦
          let joined = ap (λ n. take n whole) w.filled-is ∙ filled-more from w.in-Ok.came room part within w.in-Ok.ensures.bound.0 in
          (search rules, subst (Consumes _ _) (sym joined) (Consumes-trans _ _ _ _ _ c.loop.invariant.1 w.in-Ok.ensures.bytes.0))
      | in-Err+else-ne w ↦
          let same = ap (λ n. take n whole) w.filled-is ∙ take-put_mid_below from (length room - from) room part from (le_refl _) within in
          (search rules, subst (Consumes _ _) (sym same) (Consumes-kept _ _ _ _ c.loop.invariant.1 w.in-Err.ensures.bytes))
    ]
