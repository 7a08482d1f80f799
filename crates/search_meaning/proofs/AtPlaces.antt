-- Places counted from 1, as the witness has them, and from 0, as the search has them.
use mathlib.Core.Path.{◌≡◌, refl, ap, ◌∙◌}
use mathlib.Core.Option.{some}
use mathlib.Core.List.{List, [], ◌∷◌, map}
use Prim.Native.Nat.{ℕ, zero, suc, ◌<◌}
use native.Mathlib.Omega.{arith}
use lib.ListN.{length, get_or}
use Rattle.spec.specs.Answer.{AtPlaces}
use Rattle.spec.proofs.Lists.At.{get_or-place, place-get_or}

module _ {A : Type 0} (d : A) where
  -- l has, for each of ms, its place in all, counted from 0
  pub record Indexed (all : List A) (l : List ℕ) (ms : List A) : Type 0 where
    pub long : length l ≡ length ms
    pub within : (i : ℕ) → i < length ms → get_or l i 0 < length all
    pub stands : (i : ℕ) → i < length ms → get_or all (get_or l i 0) d ≡ get_or ms i d

  pub places-indexed : (all : List A) (l : List ℕ) (ms : List A) → AtPlaces all (map suc l) ms → Indexed all l ms
  places-indexed all [] [] h = record { long = refl; within = λ i o. absurd (omega arith); stands = λ i o. absurd (omega arith) }
  places-indexed all [] (m ∷ ms) h = absurd h
  places-indexed all (k ∷ l) [] h = absurd h
  places-indexed all (k ∷ l) (m ∷ ms) h = go (places-indexed all l ms h.1) (place-get_or d all k m h.0)
    where
      go : Indexed all l ms → (k < length all) × (get_or all k d ≡ m) → Indexed all (k ∷ l) (m ∷ ms)
      go r w = record { long = ap suc r.long; within = within'; stands = stands' }
        where
          within' : (i : ℕ) → i < length (m ∷ ms) → get_or (k ∷ l) i 0 < length all
          within' zero o = w.0
          within' (suc i) o = r.within i (omega arith)

          stands' : (i : ℕ) → i < length (m ∷ ms) → get_or all (get_or (k ∷ l) i 0) d ≡ get_or (m ∷ ms) i d
          stands' zero o = w.1
          stands' (suc i) o = r.stands i (omega arith)

  pub indexed-places : (all : List A) (l : List ℕ) (ms : List A) → Indexed all l ms → AtPlaces all (map suc l) ms
  indexed-places all [] [] r = tt
  indexed-places all [] (m ∷ ms) r = absurd (omega (arith, r.long))
  indexed-places all (k ∷ l) [] r = absurd (omega (arith, r.long))
  indexed-places all (k ∷ l) (m ∷ ms) r = (
    get_or-place d all k (r.within 0 (omega arith)) ∙ ap some (r.stands 0 (omega arith)),
    indexed-places all l ms record { long = omega (arith, r.long); within = λ i o. r.within (suc i) (omega arith); stands = λ i o. r.stands (suc i) (omega arith) },
  )
