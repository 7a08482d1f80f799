-- Any two answers that meet the promise are the same.
use mathlib.Core.Path.{◌≡◌}
use mathlib.Core.Bool.{Bool}
use mathlib.Core.List.{List}
use Prim.Native.Nat.{ℕ}
use Rattle.spec.specs.Truth.{Checks}
use Rattle.bits.proofs.Laws.{exactly-once}

pub checks-once : {book rewriting witness : List ℕ} (r s : Bool) → Checks book rewriting witness r → Checks book rewriting witness s → r ≡ s
checks-once r s f g = exactly-once r s f.exactly g.exactly
