-- What the arities' answer says of the relations.
use mathlib.Core.Path.{◌≡◌, sym, subst}
use mathlib.Core.List.{List}
use Prim.Native.Nat.{ℕ}
use Rattle.std.specs.Prelude.{Result, Ok, Err}
use Rattle.spec.specs.BookLayout.{Arities}
use Rattle.spec.specs.Contents.{stamp_at, part_at, RightRelations}
use Rattle.spec.specs.Refusals.{Fault5}
use Rattle.spec.specs.declared.Refused.{Refused}
use Rattle.contents.specs.Entries.Steps.{StepSays}

-- Right relations are a stamp of 0 and right arities.
pub relations-say : (book part : List ℕ) (row : Refused) (r : Result Unit Refused) → stamp_at book 0 ≡ 0 → part ≡ part_at book 0
    → StepSays (Arities part) (Arities part → ⊥) row r → StepSays (RightRelations book) (Fault5 book) row r
relations-say book part row (Ok _) s e h = record { stamp = s; arities = subst Arities e h }
relations-say book part row (Err _) s e h = (λ w. h.0 (subst Arities (sym e) w.arities), h.1)
