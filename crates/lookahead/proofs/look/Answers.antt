use mathlib.Core.Bool.{true≢false}
use mathlib.Core.Path.{sym, ◌∙◌}
use native.Mathlib.Omega.{arith}
use Rattle.lookahead.specs.Seen.{closed}
use Rattle.lookahead.proofs.InVain.{there, wanted-start, wanted-next, wanted-steady, wanted-more, vain-none, vain-many}
use Rattle.lookahead.proofs.Counted.{counted_start, counted_next, counted-more, hope, despair, contented, wanting, serves, served-by, seen-alone, seen-together, seen-fair}
use Rattle.lookahead.proofs.look.Goals as goal

pub returns-then-rows-eq0 : goal.returns-then-rows-eq0
returns-then-rows-eq0 c = record { seen = closed c.if-rows-eq0.true; vain = tt }

pub loop-i-init : goal.loop-i-init
loop-i-init c = record { from = omega arith; wanted = wanted-start _ _ _ _; counted = counted_start _ _ _ _ }

pub offers-with-requires : goal.offers-with-requires
offers-with-requires c = there _ c.args.task.now.sized _ _ c.use_end-i-end.ensures _ c.loop-i.invariant.from c.loop-i-test.true

pub slots_of-requires : goal.slots_of-requires
slots_of-requires c = there _ c.args.task.now.sized _ _ c.use_end-i-end.ensures _ c.loop-i.invariant.from c.loop-i-test.true

pub returns-then-with-eq0 : goal.returns-then-with-eq0
returns-then-with-eq0 c =
    let u = c.use_end-i-end.ensures in
    let less = c.loop-i-test.true in
    let none = c.if-with-eq0.true in
    let o = rw c.join-allowed.ensures at c.offers-with.ensures in
    record {
      seen = seen-alone _ _ _ _ c.if-rows-eq0.false _ _ c.loop-i.invariant.counted (despair _ _ _ _ _ _ o ((u.exactly _).0 (c.loop-i.invariant.from, less)) none) _ c.slots_of.ensures;
      vain = vain-none _ c.args.task.now.sized _ _ u _ _ _ c.loop-i.invariant.from less _ c.slots_of.ensures (rw none at o);
    }

pub loop-i-preserved-then-meets : goal.loop-i-preserved-then-meets
loop-i-preserved-then-meets c =
    let o = rw c.join-allowed.ensures at c.offers-with.ensures in
    record {
      from = omega (arith, c.loop-i.invariant.from);
      wanted = wanted-next _ _ _ _ _ _ c.loop-i.invariant.wanted;
      counted = counted_next _ _ _ _ _ _ c.loop-i.invariant.counted (hope _ _ _ _ _ _ o c.if-with-eq0.false) (contented _ _ _ _ _ _ o (rw c.if-meets.true at c.meets.ensures));
    }

pub slots_of-slots-requires : goal.slots_of-slots-requires
slots_of-slots-requires c = there _ c.args.task.now.sized _ _ c.use_end-i-end.ensures _ c.loop-i.invariant.from c.loop-i-test.true

pub count-requires : goal.count-requires
count-requires c =
    wanted-steady _ c.args.task.now.sized _ _ c.use_end-i-end.ensures _ _ _ _ c.loop-i.invariant.from c.loop-i-test.true c.loop-i.invariant.wanted

pub loop-i-preserved : goal.loop-i-preserved
loop-i-preserved c =
    let u = c.use_end-i-end.ensures in
    let less = c.loop-i-test.true in
    let s = c.slots_of-slots.ensures in
    let o = rw c.join-allowed.ensures at c.offers-with.ensures in
    let m = rw c.if-meets.false at c.meets.ensures in
    let same = (u.exactly _).0 (c.loop-i.invariant.from, less) in
    record {
      from = omega (arith, c.loop-i.invariant.from);
      wanted = wanted-more _ c.args.task.now.sized _ _ u _ _ _ _ c.loop-i.invariant.from less c.loop-i.invariant.wanted _ _ s o m _ c.count.ensures;
      counted = counted-more _ _ _ _ _ _ c.loop-i.invariant.counted (hope _ _ _ _ _ _ o c.if-with-eq0.false) (wanting _ _ _ _ _ _ o same m) _ (λ x. (serves _ _ _ _ _ _ o same m x, served-by _ _ _ _ _ _ o same m x)) _ s _ c.count.ensures;
    }

pub beyond-requires : goal.beyond-requires
beyond-requires c =
    let x = c.most.ensures.one in
    record { many_le_uses_goals = c.loop-i.invariant.wanted.small; each_le_uses_goals = omega (arith, x.2, c.loop-i.invariant.wanted.below x.0, c.loop-i.invariant.wanted.small) }

pub returns-then-beyond : goal.returns-then-beyond
returns-then-beyond c =
    let m = c.most.ensures in
    let more = c.beyond.ensures.0 c.if-beyond.true in
    record {
      seen = seen-together _ c.args.task.now.sized _ _ _ c.if-rows-eq0.false _ _ _ c.use_end-i-end.ensures c.loop-i-test.false c.loop-i.invariant.counted _ m more;
      vain = vain-many _ _ _ _ _ _ c.loop-i.invariant.wanted _ m more;
    }

pub returns : goal.returns
returns c =
    record {
      seen = seen-fair _ c.args.task.now.sized _ _ _ c.if-rows-eq0.false _ _ _ c.use_end-i-end.ensures c.loop-i-test.false c.loop-i.invariant.counted _ c.most.ensures (λ l. true≢false (sym (c.beyond.ensures.1 l) ∙ c.if-beyond.false));
      vain = tt;
    }
