use mathlib.Core.Path.{◌≡◌}
use Prim.Native.Nat.{◌≤◌}
use lib.ListN.{length}
use lib.Seq.{sets}
use Rattle.witness.specs.WitnessBytes.{pair_bytes}
use Rattle.witness.proofs.bytes.put_pairs.Given as goal

-- the pairs so far are stored
abbrev pub invariant-loop-i : goal.invariant-loop-i
invariant-loop-i l =
    let out₀ = l.initial.out in
    let ks = l.ks in
    let own = l.own in
    let inner = l.inner in
    let n = l.n in
    let out = l.out in
    let i = l.i in
    (i ≤ n) × (length out ≡ length out₀) × (out ≡ sets out₀ 0 (pair_bytes ks own inner 0 i))
