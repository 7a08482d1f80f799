-- Two results that meet a public function's promise are the same.
use mathlib.Core.Bool.{Bool}
use mathlib.Core.Path.{◌≡◌, refl, ap, sym, ◌∙◌}
use mathlib.Core.List.{List}
use Rattle.std.specs.Prelude.{Option, Some, None}
use Prim.Native.Nat.{ℕ}
use Rattle.spec.proofs.Lists.Strict.{first-unique}
use Rattle.spec.proofs.Decided.Orders.{bytes_order}
use Rattle.bits.proofs.Laws.{exactly-once}
use Rattle.task.specs.Task.{Task}
use Rattle.placing.specs.FirstPlaces.{laid, FirstOf, FirstPlaces, Enough}
use Rattle.placing.specs.SearchAnswer.{PlacesFrom}

pub first-of-unique : (Serves : List ℕ → Type 0) (at : ℕ) (r s : Option (List ℕ)) → FirstOf Serves at r → FirstOf Serves at s → r ≡ s
first-of-unique Serves at (Some ks) (Some ls) f g = ap (λ (x : List ℕ). Some x) (f.1 ∙ ap (laid at) (first-unique bytes_order f.0 g.0 f.2 g.2) ∙ sym g.1)
first-of-unique Serves at (Some ks) None f g = absurd (g f.0 f.2.holds)
first-of-unique Serves at None (Some ls) f g = absurd (f g.0 g.2.holds)
first-of-unique Serves at None None f g = refl

pub places-from-unique : (p : Task) (at : ℕ) (b : List ℕ) (r s : Option (List ℕ)) → PlacesFrom p at b r → PlacesFrom p at b s → r ≡ s
places-from-unique p at b = first-of-unique _ at

pub first-places-unique : (p : Task) (b : List ℕ) (r s : Option (List ℕ)) → FirstPlaces p b r → FirstPlaces p b s → r ≡ s
first-places-unique p b = first-of-unique _ 0

pub enough-unique : (p : Task) (b : List ℕ) (used may left : ℕ) (r s : Bool) → Enough p b used may left r → Enough p b used may left s → r ≡ s
enough-unique p b used may left r s f g = exactly-once r s f.exactly g.exactly
