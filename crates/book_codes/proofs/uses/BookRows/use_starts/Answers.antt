use native.Mathlib.Omega.{arith}
use lib.ListN.{length-set}
use Rattle.std.specs.Iterator.Adapters.{enumerate_source}
use Rattle.book_codes.proofs.Growing.{row-given, rows-room, count-goals, reach-goes}
use Rattle.book_codes.proofs.Beginnings.{begun-goes, begun-ends}
use Rattle.book_codes.proofs.Chunks.{taken, all-taken}
use Rattle.book_codes.proofs.uses.BookRows.use_starts.Goals as goal

pub use_count-at-requires : goal.use_count-at-requires
use_count-at-requires c =
    let inv = c.loop-r.invariant in
    let one = taken inv.left (enumerate_source c.next.new.self) c.in-Some.row c.in-Some.ensures.steps.0 in
    row-given c.requires.0 one.more one.chunk

pub loop-r-preserved : goal.loop-r-preserved
loop-r-preserved c =
    let inv = c.loop-r.invariant in
    let step = c.in-Some.ensures.steps in
    let one = taken inv.left (enumerate_source c.next.new.self) c.in-Some.row step.0 in
    let goals = count-goals one.more one.chunk c.use_count-at.ensures in
    rw step.2 (record {
      left = one.left;
      reached = reach-goes one.more inv.reached goals;
      begun = rw step.1 (begun-goes one.more (omega (arith, length-set c.args.starts.now 0 0)) inv.reached goals inv.begun);
    })

pub returns : goal.returns
returns c =
    let inv = c.loop-r.invariant in
    begun-ends _ _ (all-taken inv.left (enumerate_source c.next.new.self) (rows-room c.requires.0) c.in-None.ensures.steps.0) inv.begun
