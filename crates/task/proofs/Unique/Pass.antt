-- Two results that meet the promise are the same.
use mathlib.Core.Bool.{Bool}
use mathlib.Core.Path.{◌≡◌}
use mathlib.Core.List.{List}
use Prim.Native.Nat.{ℕ}
use Rattle.bits.proofs.Laws.{exactly-once}
use Rattle.task.specs.Task.{Task}
use Rattle.task.specs.Follows.{Follows}

pub follows-once : (p : Task) (b ks : List ℕ) (r s : Bool) → Follows p b ks r → Follows p b ks s → r ≡ s
follows-once p b ks r s f g = exactly-once r s f.exactly g.exactly
