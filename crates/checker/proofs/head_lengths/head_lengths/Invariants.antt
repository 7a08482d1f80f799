use mathlib.Core.Path.{◌≡◌}
use lib.ListN.{length}
use Prim.Native.Nat.{◌≤◌}
use Rattle.checker.specs.Lengths.{HeadsTo}
use Rattle.checker.proofs.head_lengths.head_lengths.Given as goal

abbrev pub invariant-loop-i : goal.invariant-loop-i
invariant-loop-i l =
    let book = l.book in
    let n = l.n in
    let table = l.table in
    let i = l.i in
    (i ≤ n) × (length table ≡ 65) × HeadsTo book i table
