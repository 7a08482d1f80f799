use mathlib.Core.Path.{◌∙◌}
use native.Mathlib.Omega.{arith}
use lib.ListN.{length}
use Rattle.std.proofs.lemmas.List.{length_push}
use Rattle.answer.proofs.RuleStores.{rows-stored, rows-place}
use Rattle.answer.proofs.RowWalk.{row-taken}
use Rattle.answer.proofs.rule_bytes.put_rows.Goals as goal

pub loop-row-preserved : goal.loop-row-preserved
loop-row-preserved c =
    let a = c.args in
    let inv = c.loop-row.invariant in
    let r = length c.loop-row.yielded in
    let one = row-taken inv.ahead c.next.new.self c.in-Some.row c.in-Some.wide c.in-Some.ensures.steps in
    let wide = c.from-wide.ensures ∙ one.told in
    let narrow = c.requires.0.narrow r in
    let few = inv.few in
    let long = one.nine.long in
    rw (length_push c.loop-row.yielded (c.in-Some.row, c.in-Some.wide)) (record {
      ahead = one.ahead;
      place = rows-place a.codes.now a.widths.now r one.more one.nine.is wide a.out.now a.at inv.place (omega arith);
      few = omega arith;
      stored = rows-stored a.codes.now a.widths.now r one.more one.nine.is wide a.out.now a.at inv.place inv.stored c.put_row.ensures;
    })
