use mathlib.Core.Path.{◌≡◌}
use Prim.Native.Nat.{◌<◌}
use Rattle.spec.specs.Contents.{begin_at}
use Rattle.contents.proofs.Entries.EntryWalk.{Followed}
use Rattle.contents.proofs.gaps.no_gaps.Given as goal

-- Each entry passed begins where it has to, and `begin` is where entry i has to.
abbrev pub invariant-loop-i : goal.invariant-loop-i
invariant-loop-i l = record { here : l.begin ≡ begin_at l.book l.i; fits : l.begin < 8589934592; passed : Followed l.book l.i }
