use Prim.Native.Nat.{◌≤◌, ◌-◌}
use Rattle.witness_check.specs.WayThere.Places.{PairPlaces}
use Rattle.witness_check.proofs.there.pair_places.Given as goal

-- the pairs so far
abbrev pub invariant-loop-i : goal.invariant-loop-i
invariant-loop-i l =
    let witness = l.witness in
    let starts = l.starts in
    let k = l.k in
    let n = l.n in
    let ks = l.ks in
    let i = l.i in
    (i ≤ n) × PairPlaces witness starts k i ks

abbrev pub decreases-loop-i : goal.decreases-loop-i
decreases-loop-i l =
    let n = l.n in
    let i = l.i in
    n - i
