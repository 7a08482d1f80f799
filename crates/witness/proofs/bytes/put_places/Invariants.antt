use mathlib.Core.Path.{◌≡◌}
use Prim.Native.Nat.{◌≤◌}
use lib.ListN.{length}
use lib.Seq.{sets}
use Rattle.witness.specs.WitnessBytes.{place_bytes}
use Rattle.witness.proofs.bytes.put_places.Given as goal

-- the places so far are stored
abbrev pub invariant-loop-i : goal.invariant-loop-i
invariant-loop-i l =
    let out₀ = l.initial.out in
    let at = l.at in
    let ks = l.ks in
    let n = l.n in
    let out = l.out in
    let i = l.i in
    (i ≤ n) × (length out ≡ length out₀) × (out ≡ sets out₀ at (place_bytes ks 0 i))
