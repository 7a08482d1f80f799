-- Two results that meet a public function's promise are the same.
use mathlib.Core.Path.{◌≡◌, refl, sym, ap, ap₂, ◌∙◌}
use mathlib.Core.List.{List, ◌++◌}
use Prim.Native.Nat.{ℕ}
use lib.ListN.{take, take-append-drop}
use Rattle.std.specs.Prelude.{Option, Some, None}
use Rattle.spec.proofs.Lists.Strict.{first-unique}
use Rattle.spec.proofs.Decided.Orders.{bytes_order}
use Rattle.task.specs.Task.{Task}
use Rattle.summary_rows.specs.RowPlaces.{FirstOrNone, StartPlaces, NextPlaces}

module _ (Ok : List ℕ → Type 0) (h : ℕ) (before : List ℕ) where
  first-once : (r s : Option (List ℕ)) → FirstOrNone Ok h before r → FirstOrNone Ok h before s → r ≡ s
  first-once (Some ks) (Some ls) f g =
      let front : take h ks ≡ take h ls = first-unique bytes_order (take h ks) (take h ls) f.first g.first in
      ap Some (sym (take-append-drop h ks) ∙ ap₂ ◌++◌ front (f.behind ∙ sym g.behind) ∙ take-append-drop h ls)
  first-once (Some ks) None f g = absurd (g (take h ks) f.first.holds)
  first-once None (Some ls) f g = absurd (f (take h ls) g.first.holds)
  first-once None None f g = refl

pub first-row-once : (p : Task) (h : ℕ) (r s : Option (List ℕ)) → StartPlaces p h r → StartPlaces p h s → r ≡ s
first-row-once p h = first-once _ h _

pub next-row-once : (p : Task) (h : ℕ) (ks : List ℕ) (r s : Option (List ℕ)) → NextPlaces p h ks r → NextPlaces p h ks s → r ≡ s
next-row-once p h ks = first-once _ h ks
