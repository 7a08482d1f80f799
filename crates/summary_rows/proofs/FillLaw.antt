-- The first row that begins with given places: place after place takes the first that some row has there.
use mathlib.Core.Path.{◌≡◌, refl, sym, ap, ◌∙◌, subst}
use mathlib.Core.Logic.{◌⊎◌, inl, inr, ⊎_elim}
use mathlib.Core.List.{List, [], ◌∷◌, ◌++◌}
use Prim.Native.Nat.{ℕ, ◌+◌, ◌<◌, ◌≤◌}
use native.Mathlib.Omega.{arith}
use lib.ListN.{length, get_or, set, take, drop, length-set}
use lib.Seq.{length-take-le, take-set-le, drop-set-lt}
use Rattle.std.specs.Prelude.{Option, Some, None, IsSome}
use Rattle.spec.specs.Order.{ListBefore}
use Rattle.task.specs.Task.{Task}
use Rattle.summary_rows.specs.RowPlaces.{HeadTask, PlacesWith, RowFront, FrontNeeds, PlacePut, NextPlace}
use Rattle.summary_rows.proofs.Fronts.{front_same, front-before}
use Rattle.spec.proofs.Lists.Parts.{front-last, front-put}
use Rattle.summary_rows.proofs.RowFronts.{goes_on, front-row, front_long, front-begins}

-- the first i of `all` are the first front of that length, of rows that begin with the first j of ks; behind the head `all` is ks
pub record FrontFilled (p : Task) (h j : ℕ) (ks : List ℕ) (i : ℕ) (all : List ℕ) : Type 0 where
  pub long : length all ≡ 96
  pub on : j ≤ i
  pub begins : take j all ≡ take j ks
  pub behind : drop h all ≡ drop h ks
  pub at : FrontNeeds p h i all
  pub least : (js : List ℕ) → PlacesWith p h j ks js → (take i all ≡ take i js) ⊎ ListBefore ◌<◌ (take i all) (take i js)

module _ (p : Task) (h : ℕ) (ready : HeadTask p h) (j : ℕ) (ks : List ℕ) where
  module _ (i : ℕ) (all : List ℕ) (s : FrontFilled p h j ks i all) where
    -- some row goes on
    pub some-place : i < h → (r : Option (List ℕ)) → NextPlace p h i all 0 r → IsSome r
    some-place low (Some front) next = refl
    some-place low None next = absurd (next _ (goes_on p h i all (front-row p h ready i all s.long s.at) 0 s.at.front.row low (front-begins p h ready i all s.long s.at) (omega arith)))

    module _ (low : i < h) (front : List ℕ) (next : PlacePut p h i all 0 front) where
      abbrev k : ℕ
      k = next.place

      put : take (i + 1) (set all i k) ≡ take i all ++ (k ∷ [])
      put = front-put all i k (omega (arith, s.long, ready.short))

      least : (js : List ℕ) → PlacesWith p h j ks js → (take i all ++ (k ∷ []) ≡ take (i + 1) js) ⊎ ListBefore ◌<◌ (take i all ++ (k ∷ [])) (take (i + 1) js)
      least js y = rw parts (⊎_elim same (λ b. inr (front-before ◌<◌ (take i all) (take i js) (k ∷ []) (get_or js i 0 ∷ []) (front_long p h ready i all s.long s.at ∙ sym (length-take-le i js (omega (arith, y.row.long)))) b)) (s.least js y))
        where
          parts : take (i + 1) js ≡ take i js ++ (get_or js i 0 ∷ [])
          parts = front-last js i (omega (arith, y.row.long))

          same : take i all ≡ take i js → (take i all ++ (k ∷ []) ≡ take i js ++ (get_or js i 0 ∷ [])) ⊎ ListBefore ◌<◌ (take i all ++ (k ∷ [])) (take i js ++ (get_or js i 0 ∷ []))
          same e = rw e (⊎_elim (λ q. inl (ap (λ n. take i js ++ (n ∷ [])) q)) (λ l. inr (front_same ◌<◌ (take i js) (k ∷ []) (get_or js i 0 ∷ []) (inl l)))
              (next.first.least (get_or js i 0) (goes_on p h i all js 0 y.row low (sym e) (omega arith))))

      pub filled_more : FrontFilled p h j ks (i + 1) front
      filled_more = subst (FrontFilled p h j ks (i + 1)) (sym next.put) record {
        long = length-set all i k ∙ s.long;
        on = omega (arith, s.on);
        begins = take-set-le j all i k s.on ∙ s.begins;
        behind = drop-set-lt h all i k low ∙ s.behind;
        at = record { few = omega arith; front = subst (RowFront p h) (sym put) next.first.holds.front };
        least = λ js y. rw put (least js y);
      }
