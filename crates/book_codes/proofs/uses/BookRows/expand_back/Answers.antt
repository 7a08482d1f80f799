use mathlib.Core.Path.{refl}
use native.Mathlib.Omega.{arith}
use lib.ListN.{length, length-take, length-drop}
use Rattle.std.proofs.lemmas.List.{length_push}
use Rattle.codes.specs.Code.{own_slot}
use Rattle.codes.proofs.Padded.{codes-length, widths-length}
use Rattle.search_meaning.specs.Uses.{end_of}
use Rattle.search_meaning.proofs.UseOf.{end-long}
use Rattle.book_codes.proofs.Stored.{part-stored}
use Rattle.book_codes.proofs.Spread.{codes_each, widths_each, end_each, codes-spread, widths-spread, ends-spread}
use Rattle.book_codes.proofs.Growing.{row-given, rows-room, use-goals, codes-added, widths-added, numbers-added, reach-goes, so-goes, reach-ends, so-ends}
use Rattle.book_codes.proofs.Chunks.{taken, all-taken}
use Rattle.book_codes.proofs.uses.BookRows.expand_back.Goals as goal

pub slot_use-goals-requires : goal.slot_use-goals-requires
slot_use-goals-requires c =
    let inv = c.loop-row.invariant in
    let one = taken inv.left c.next.new.self c.in-Some.row c.in-Some.ensures.steps in
    let few = inv.reached.few in
    let long = inv.codes.long in
    let wide = inv.wide.long in
    let more = one.more in
    (row-given c.requires.0 more one.chunk, simp (length-take, length-drop) (omega arith), simp (length-take, length-drop) (omega arith))

pub overflow_add-end : goal.overflow_add-end
overflow_add-end c =
    let inv = c.loop-row.invariant in
    let one = taken inv.left c.next.new.self c.in-Some.row c.in-Some.ensures.steps in
    let more = one.more in
    let reached = inv.reached.few in
    let few = (c.slot_use-goals.ensures.0 0).few in
    omega arith

pub slice_bounds-mark_end-end : goal.slice_bounds-mark_end-end
slice_bounds-mark_end-end c =
    let inv = c.loop-row.invariant in
    let one = taken inv.left c.next.new.self c.in-Some.row c.in-Some.ensures.steps in
    let more = one.more in
    let reached = inv.reached.few in
    let few = (c.slot_use-goals.ensures.0 0).few in
    let long = inv.ends.long in
    omega arith

pub mark_end-requires : goal.mark_end-requires
mark_end-requires c =
    let inv = c.loop-row.invariant in
    let one = taken inv.left c.next.new.self c.in-Some.row c.in-Some.ensures.steps in
    let more = one.more in
    let reached = inv.reached.few in
    let few = (c.slot_use-goals.ensures.0 0).few in
    let some = (c.slot_use-goals.ensures.0 0).some in
    let long = inv.ends.long in
    simp (length-take, length-drop) (omega arith)

pub loop-row-preserved : goal.loop-row-preserved
loop-row-preserved c =
    let given = c.requires.0 in
    let inv = c.loop-row.invariant in
    let one = taken inv.left c.next.new.self c.in-Some.row c.in-Some.ensures.steps in
    let more = one.more in
    let codes = c.slot_use-goals.ensures.0 _ in
    let goals = use-goals more one.chunk codes in
    let reached = inv.reached.few in
    let few = codes.few in
    let long = inv.codes.long in
    let wide = inv.wide.long in
    rw (length_push c.loop-row.yielded c.in-Some.row) (record {
      left = one.left;
      reached = reach-goes more inv.reached goals;
      codes = so-goes more inv.reached goals (codes_each own_slot) 9 (λ u m. codes-length own_slot m) refl (omega arith) given inv.codes (codes-added more one.chunk codes (omega arith));
      wide = so-goes more inv.reached goals widths_each 1 (λ u m. omega (arith, widths-length m)) (omega arith) (omega arith) given inv.wide (widths-added more one.chunk c.slot_use-goals.ensures.1 goals (omega arith));
      ends = so-goes more inv.reached goals end_each 1 (λ u m. omega (arith, end-long (length m))) (omega arith) (omega arith) given inv.ends
          (numbers-added more (λ u k. end_of k) goals (part-stored end_of end-long _ _ _ _ (omega arith) c.mark_end.ensures));
    })

pub returns : goal.returns
returns c =
    let inv = c.loop-row.invariant in
    let end = all-taken inv.left c.next.new.self (rows-room c.requires.0) c.in-None.ensures.steps in (
      reach-ends end inv.reached,
      record { is = so-ends end _ (codes-spread own_slot 0) inv.codes },
      record { is = so-ends end _ (widths-spread 0) inv.wide },
      record { is = so-ends end _ (ends-spread 0) inv.ends },
    )
