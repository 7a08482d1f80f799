-- Any two results that meet a promise are the same.
use mathlib.Core.Path.{◌≡◌}
use mathlib.Core.Bool.{Bool}
use mathlib.Core.List.{List}
use Prim.Native.Nat.{ℕ}
use Rattle.book_codes.specs.FewRows.{FewRows}
use Rattle.bits.proofs.Laws.{exactly-once}
use Rattle.witness_check.specs.WayBack.Confirms.{BackCheckSays}

module _ {book rows : List ℕ} {k : ℕ} (w : FewRows book rows k) (witness : List ℕ) (r s : Bool) where
  pub back-once : BackCheckSays book rows k witness r → BackCheckSays book rows k witness s → r ≡ s
  back-once f g = exactly-once r s (f.exactly w.value w.list w.is) (g.exactly w.value w.list w.is)
