use Prim.Native.Nat.{◌≤◌, ◌-◌}
use lib.ListN.{length}
use Rattle.witness_check.specs.WayBack.Places.{BytePlaces}
use Rattle.witness_check.proofs.back.byte_places.Given as goal

-- the bytes so far
abbrev pub invariant-loop-i : goal.invariant-loop-i
invariant-loop-i l =
    let witness = l.witness in
    let ks = l.ks in
    let i = l.i in
    (i ≤ length witness) × BytePlaces witness i ks

abbrev pub decreases-loop-i : goal.decreases-loop-i
decreases-loop-i l =
    let witness = l.witness in
    let i = l.i in
    length witness - i
