-- The next row: with the places before j kept, place j is taken further, from the last place of the head on down.
use mathlib.Core.Path.{◌≡◌, refl, sym, ap, ◌∙◌}
use mathlib.Core.Logic.{◌⊎◌, inl, inr, ⊎_elim}
use mathlib.Core.List.{List, [], ◌∷◌, ◌++◌}
use Prim.Native.Nat.{ℕ, suc, ◌+◌, ◌<◌}
use native.Mathlib.Omega.{arith}
use lib.ListN.{length, get_or, take, drop, drop_of_length-le}
use lib.Seq.{length-take-le, take-set-le, take-take, get_or-take}
use Rattle.spec.specs.Order.{ListBefore, First}
use Rattle.task.specs.Task.{Task}
use Rattle.summary_rows.specs.RowPlaces.{HeadTask, RowPlaces, LaterPlaces, PlacesWith, RowGoesOn, PlacePut}
use Rattle.summary_rows.proofs.Fronts.{front_same, front-split, front-decides, split-later}
use Rattle.spec.proofs.Lists.Parts.{front-last, front-put}
use Rattle.summary_rows.proofs.RowFronts.{goes_on}

-- no row comes after ks and has its first j places
pub Gone : Task → ℕ → List ℕ → ℕ → Type 0
Gone p h ks j = (js : List ℕ) → RowPlaces p h js → take j (take h ks) ≡ take j js → ListBefore ◌<◌ (drop j (take h ks)) (drop j js) → ⊥

module _ (p : Task) (h : ℕ) (ready : HeadTask p h) (ks : List ℕ) (long : length ks ≡ 96) where
  head-long : length (take h ks) ≡ h
  head-long = length-take-le h ks (omega (arith, ready.short))

  pub gone-start : Gone p h ks h
  unfolding Gone
  gone-start js y e b = rw (drop_of_length-le (take h ks) {i = h} (omega (arith, head-long)), drop_of_length-le js {i = h} (omega (arith, y.long))) at b

  pub next-none : Gone p h ks 0 → (js : List ℕ) → LaterPlaces p h ks js → ⊥
  unfolding Gone
  next-none gone js y = gone js y.row refl y.after

  module _ (j : ℕ) (low : j < h) (gone : Gone p h ks (suc j)) where
    abbrev from : ℕ
    from = get_or ks j 0 + 1

    kept_same : take j (take h ks) ≡ take j ks
    kept_same = take-take j h ks (omega arith)

    -- a row after ks that has its first j places is further on at j, since those that have its first j + 1 places are gone
    further : (js : List ℕ) → RowPlaces p h js → take j (take h ks) ≡ take j js → ListBefore ◌<◌ (drop j (take h ks)) (drop j js) → RowGoesOn p h j ks from (get_or js j 0)
    unfolding Gone
    further js y e b = ⊎_elim
        (λ l. goes_on p h j ks js from y low (sym e ∙ kept_same) (omega (arith, get_or-take h ks j 0 low)))
        (λ w. absurd (gone js y w.0 w.1))
        (split-later j (take h ks) js (head-long ∙ sym y.long) (omega (arith, head-long)) e b)

    pub gone-more : ((k : ℕ) → RowGoesOn p h j ks from k → ⊥) → Gone p h ks j
    unfolding Gone
    gone-more none js y e b = none (get_or js j 0) (further js y e b)

    -- the first row with the place that was found
    module _ (front : List ℕ) (found : PlacePut p h j ks from front) (next : List ℕ) (first : First (PlacesWith p h (j + 1) front) (ListBefore ◌<◌) next) where
      abbrev k : ℕ
      k = found.place

      put : take (j + 1) front ≡ take j ks ++ (k ∷ [])
      put = ap (take (j + 1)) found.put ∙ front-put ks j k (omega (arith, ready.short))

      next-long : length next ≡ h
      next-long = first.holds.row.long

      next-front : take (j + 1) next ≡ take j ks ++ (k ∷ [])
      next-front = first.holds.begins ∙ put

      next-kept : take j next ≡ take j ks
      next-kept =
          sym (take-take j (j + 1) next (omega arith)) ∙ ap (take j) first.holds.begins ∙ take-take j (j + 1) front (omega arith)
          ∙ ap (take j) found.put ∙ take-set-le j ks j k (omega arith)

      after : ListBefore ◌<◌ (take h ks) next
      after = front-decides (j + 1) (take h ks) next (omega (arith, head-long)) (omega (arith, next-long))
          (rw (next-front, take-take (j + 1) h ks (omega arith), front-last ks j (omega (arith, ready.short)))
          (front_same ◌<◌ (take j ks) (get_or ks j 0 ∷ []) (k ∷ []) (inl (omega (arith, found.first.holds.later)))))

      least : (js : List ℕ) → LaterPlaces p h ks js → (next ≡ js) ⊎ ListBefore ◌<◌ next js
      least js y = ⊎_elim before same (front-split ◌<◌ j (take h ks) js (head-long ∙ sym y.row.long) y.after)
        where
          before : ListBefore ◌<◌ (take j (take h ks)) (take j js) → (next ≡ js) ⊎ ListBefore ◌<◌ next js
          before b = inr (front-decides j next js (omega (arith, next-long)) (omega (arith, y.row.long)) (rw (next-kept, ← kept_same) b))

          same : (take j (take h ks) ≡ take j js) × ListBefore ◌<◌ (drop j (take h ks)) (drop j js) → (next ≡ js) ⊎ ListBefore ◌<◌ next js
          same w = ⊎_elim here later (found.first.least (get_or js j 0) (further js y.row w.0 w.1))
            where
              parts : take (j + 1) js ≡ take j ks ++ (get_or js j 0 ∷ [])
              parts = front-last js j (omega (arith, y.row.long)) ∙ ap (λ m. m ++ (get_or js j 0 ∷ [])) (sym w.0 ∙ kept_same)

              here : k ≡ get_or js j 0 → (next ≡ js) ⊎ ListBefore ◌<◌ next js
              here q = first.least js record { row = y.row; begins = parts ∙ ap (λ n. take j ks ++ (n ∷ [])) (sym q) ∙ sym put }

              later : k < get_or js j 0 → (next ≡ js) ⊎ ListBefore ◌<◌ next js
              later l = inr (front-decides (j + 1) next js (omega (arith, next-long)) (omega (arith, y.row.long)) (rw (next-front, parts) (front_same ◌<◌ (take j ks) (k ∷ []) (get_or js j 0 ∷ []) (inl l))))

      pub next-found : First (LaterPlaces p h ks) (ListBefore ◌<◌) next
      next-found = record { holds = record { row = first.holds.row; after = after }; least = least }
