-- Where there is a mapping the search finds the first, and its places stand at the front.
use mathlib.Core.Path.{◌≡◌, refl, ap, ◌∙◌, subst}
use mathlib.Core.List.{List}
use Prim.Native.Nat.{ℕ, ◌-◌, ◌<◌}
use lib.ListN.{length, get_or, replicate, get_or-append}
use Rattle.std.specs.Prelude.{Option, Some, None, IsSome}
use Rattle.task.specs.Task.{Task, goals}
use Rattle.task.specs.Mapped.{Mapped, FirstMapped}
use Rattle.placing.specs.FirstPlaces.{FirstPlaces}

pub record FoundAt (t : Task) (b ks : List ℕ) : Type 0 where
  pub places : List ℕ
  pub first : FirstMapped t b places
  pub reads : (i : ℕ) → i < goals t → get_or ks i 0 ≡ get_or places i 0

pub found_at : {t : Task} {b ks : List ℕ} {r : Option (List ℕ)} → FirstPlaces t b r → r ≡ Some ks → FoundAt t b ks
found_at {t} {b} {ks} f e =
    let w = subst (FirstPlaces t b) e f in
    record {
      places = w.0;
      first = w.2;
      reads = λ i h. ap (λ l. get_or l i 0) w.1 ∙ get_or-append w.0 (replicate (96 - 0 - length w.0) 0) 0 i (rw w.2.holds.long h);
    }

-- where there is a mapping, one is found
pub is_found : {t : Task} {b : List ℕ} (r : Option (List ℕ)) → FirstPlaces t b r → ((l : List ℕ) × Mapped t b l) → IsSome r
is_found (Some ks) f m = refl
is_found None f m = absurd (f m.0 m.1)
