use mathlib.Core.Path.{refl}
use native.Mathlib.Omega.{arith}
use lib.ListN.{length, replicate, length-replicate, length-take, length-drop}
use Rattle.std.specs.Iterator.Adapters.{enumerate_source, enumerate_count}
use Rattle.spec.proofs.Lists.Counted.{counted}
use Rattle.codes.specs.Code.{own_code}
use Rattle.codes.proofs.Padded.{codes-length}
use Rattle.book_codes.proofs.Stored.{part-stored, counted-long}
use Rattle.book_codes.proofs.Spread.{codes_each, own_each, inside_each, codes-spread, owners-spread, insides-spread}
use Rattle.book_codes.proofs.Growing.{row-given, rows-room, numbered, use-goals, codes-added, numbers-added, reach-goes, so-goes, reach-ends, so-ends}
use Rattle.book_codes.proofs.Chunks.{taken, all-taken}
use Rattle.book_codes.proofs.uses.BookRows.expand.Goals as goal

pub own_use-goals-requires : goal.own_use-goals-requires
own_use-goals-requires c =
    let inv = c.loop-r.invariant in
    let step = c.in-Some.ensures.steps in
    let one = taken inv.left (enumerate_source c.next.new.self) c.in-Some.row step.0 in
    let few = inv.reached.few in
    let long = inv.codes.long in
    let more = one.more in
    (row-given c.requires.0 more one.chunk, omega (arith, step.1), simp (length-take, length-drop) (omega arith))

pub loop-r-preserved : goal.loop-r-preserved
loop-r-preserved c =
    let given = c.requires.0 in
    let inv = c.loop-r.invariant in
    let r = enumerate_count c.loop-r.r-iterator in
    let step = c.in-Some.ensures.steps in
    let one = taken inv.left (enumerate_source c.next.new.self) c.in-Some.row step.0 in
    let more = one.more in
    let codes = numbered step.1 c.own_use-goals.ensures in
    let goals = use-goals more one.chunk codes in
    let reached = inv.reached.few in
    let few = codes.few in
    let long = inv.codes.long in
    rw step.2 (record {
      left = one.left;
      reached = reach-goes more inv.reached goals;
      codes = so-goes more inv.reached goals (codes_each own_code) 9 (λ u m. codes-length own_code m) refl (omega arith) given inv.codes (codes-added more one.chunk codes (omega arith));
      owns = so-goes more inv.reached goals own_each 1 (λ u m. omega (arith, length-replicate (length m) u)) (omega arith) (omega arith) given inv.owns
          (numbers-added more (λ u k. replicate k u) goals (part-stored (λ k. replicate k r) (λ k. length-replicate k r) _ _ _ _ (omega arith) (rw step.1 at (c.fill.ensures.after (λ y e. e)))));
      inners = so-goes more inv.reached goals inside_each 1 (λ u m. omega (arith, counted-long 0 (length m))) (omega arith) (omega arith) given inv.inners
          (numbers-added more (λ u k. counted 0 k) goals (part-stored (counted 0) (counted-long 0) _ _ _ _ (omega arith) c.count_up.ensures));
    })

pub returns : goal.returns
returns c =
    let inv = c.loop-r.invariant in
    let end = all-taken inv.left (enumerate_source c.next.new.self) (rows-room c.requires.0) c.in-None.ensures.steps.0 in (
      reach-ends end inv.reached,
      record { is = so-ends end _ (codes-spread own_code 0) inv.codes },
      record { is = so-ends end _ (owners-spread 0) inv.owns },
      record { is = so-ends end _ (insides-spread 0) inv.inners },
    )
