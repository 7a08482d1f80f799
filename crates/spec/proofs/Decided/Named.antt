-- Targets with the bytes that name them: by one place in a list, by two in a list of lists.
use mathlib.Core.Path.{◌≡◌, refl, sym, ap, subst}
use mathlib.Core.Logic.{inl, inr}
use mathlib.Core.Option.{some}
use mathlib.Core.List.Memᴰ
use mathlib.Core.List.{List, [], ◌∷◌, ◌++◌, map}
use Prim.Native.Nat.{ℕ, ◌<◌}
use lib.ListN.{length}
use Rattle.spec.specs.Words.{◌∈◌, Subgoal}
use Rattle.spec.specs.Summaries.{place, joined}
use Rattle.spec.specs.Order.{ListBefore}
use Rattle.spec.specs.Answer.{AtPlaces, AtPairs}
use Rattle.spec.proofs.Lists.Rising.{Rising}
use Rattle.spec.proofs.Lists.Counted.{every_place, every_place-in, every_place-out, every_place-rising}
use Rattle.spec.proofs.Decided.Placings.{Target}
use Rattle.spec.proofs.Decided.Ways.{fact_of}

abbrev pub bytes_of : {A : Type 0} → Target A → List ℕ
bytes_of t = t.bytes

-- the bytes of targets, one after the other
abbrev pub written : {A : Type 0} → List (Target A) → List ℕ
written us = joined (map bytes_of us)

abbrev pub BytesBefore : {A : Type 0} → Target A → Target A → Type 0
BytesBefore t u = ListBefore ◌<◌ t.bytes u.bytes

-- The targets are those that the relation names, all with as many bytes, in the order of their bytes.
pub record Names {A : Type 0} (Named : List ℕ → List (Subgoal A) → Type 0) (wide : ℕ) (ts : List (Target A)) : Type 0 where
  pub sound : (us : List (Target A)) → ((t : Target A) → t ∈ us → t ∈ ts) → Named (written us) (map fact_of us)
  pub complete : (bytes : List ℕ) (facts : List (Subgoal A)) → Named bytes facts → (us : List (Target A)) × ((t : Target A) → t ∈ us → t ∈ ts) × (written us ≡ bytes) × (map fact_of us ≡ facts)
  pub even : (t : Target A) → t ∈ ts → length t.bytes ≡ wide
  pub rising : Rising BytesBefore ts

abbrev one : {A : Type 0} → List ℕ → Subgoal A → List (Target A)
one bytes f = record { bytes = bytes; fact = f } ∷ []

-- one byte: its place
abbrev pub places : {A : Type 0} → List (Subgoal A) → List (Target A)
places l = every_place (λ n f. one (n ∷ []) f) l

-- two bytes: the list's place, and the place in that list
abbrev pub places_in : {A : Type 0} → ℕ → List (Subgoal A) → List (Target A)
places_in n l = every_place (λ m f. one (n ∷ m ∷ []) f) l

abbrev pub pairs : {A : Type 0} → List (List (Subgoal A)) → List (Target A)
pairs ls = every_place places_in ls

abbrev AllAmong : {A : Type 0} → List (Target A) → List (Target A) → Type 0
AllAmong {A} us ts = (t : Target A) → t ∈ us → t ∈ ts

within-nil : {A : Type 0} {ts : List (Target A)} → AllAmong [] ts
within-nil t m = absurd (Memᴰ.not-nil m)

within-cons : {A : Type 0} {u : Target A} {us ts : List (Target A)} → u ∈ ts → AllAmong us ts → AllAmong (u ∷ us) ts
within-cons i h t (Memᴰ.head e) = Memᴰ.cast e i
within-cons i h t (Memᴰ.tail j) = h t j

module _ {A : Type 0} (l : List (Subgoal A)) where
  places-out : (t : Target A) → t ∈ places l → (n : ℕ) × (f : Subgoal A) × (place l n ≡ some f) × (t ≡ record { bytes = n ∷ []; fact = f })
  places-out t m = let w = every_place-out (λ n f. one (n ∷ []) f) l m in (w.0, w.1, w.2, Memᴰ.eq_of_singleton w.3)

  places-sound : (us : List (Target A)) → AllAmong us (places l) → AtPlaces l (written us) (map fact_of us)
  places-sound [] h = tt
  places-sound (u ∷ us) h =
      let w = places-out u (h u (Memᴰ.head refl)) in
      subst (λ t. AtPlaces l (t.bytes ++ written us) (t.fact ∷ map fact_of us)) (sym w.3) (w.2, places-sound us (λ t m. h t (Memᴰ.tail m)))

  places-complete : (bytes : List ℕ) (facts : List (Subgoal A)) → AtPlaces l bytes facts → (us : List (Target A)) × AllAmong us (places l) × (written us ≡ bytes) × (map fact_of us ≡ facts)
  places-complete [] [] h = ([], within-nil, refl, refl)
  places-complete [] (f ∷ fs) h = absurd h
  places-complete (n ∷ ns) [] h = absurd h
  places-complete (n ∷ ns) (f ∷ fs) h =
      let r = places-complete ns fs h.1 in
      (record { bytes = n ∷ []; fact = f } ∷ r.0, within-cons (every_place-in (λ n f. one (n ∷ []) f) l n f h.0 (Memᴰ.head refl)) r.1, ap (◌∷◌ n) r.2, ap (◌∷◌ f) r.3)

  places-rising : Rising BytesBefore (places l)
  places-rising = every_place-rising BytesBefore (λ n f. one (n ∷ []) f) l (λ n f. (λ t m. absurd (Memᴰ.not-nil m), tt)) across
    where
      across : (n m : ℕ) → n < m → (f g : Subgoal A) (x y : Target A) → x ∈ one (n ∷ []) f → y ∈ one (m ∷ []) g → BytesBefore x y
      across n m h f g x y i j = rw (Memᴰ.eq_of_singleton i, Memᴰ.eq_of_singleton j) (inl h)

  pub places-names : Names (AtPlaces l) 1 (places l)
  places-names = record { sound = places-sound; complete = places-complete; even = λ t m. let w = places-out t m in ap (λ u. length u.bytes) w.3; rising = places-rising }

module _ {A : Type 0} (ls : List (List (Subgoal A))) where
  pairs-out : (t : Target A) → t ∈ pairs ls → (n m : ℕ) × (l : List (Subgoal A)) × (f : Subgoal A) × (place ls n ≡ some l) × (place l m ≡ some f) × (t ≡ record { bytes = n ∷ m ∷ []; fact = f })
  pairs-out t i =
      let v = every_place-out places_in ls i in
      let w = every_place-out (λ m f. one (v.0 ∷ m ∷ []) f) v.1 v.3 in
      (v.0, w.0, v.1, w.1, v.2, w.2, Memᴰ.eq_of_singleton w.3)

  pairs-sound : (us : List (Target A)) → AllAmong us (pairs ls) → AtPairs ls (written us) (map fact_of us)
  pairs-sound [] h = tt
  pairs-sound (u ∷ us) h =
      let w = pairs-out u (h u (Memᴰ.head refl)) in
      subst (λ t. AtPairs ls (t.bytes ++ written us) (t.fact ∷ map fact_of us)) (sym w.6) ((w.2, w.4, w.5), pairs-sound us (λ t m. h t (Memᴰ.tail m)))

  pairs-complete : (bytes : List ℕ) (facts : List (Subgoal A)) → AtPairs ls bytes facts → (us : List (Target A)) × AllAmong us (pairs ls) × (written us ≡ bytes) × (map fact_of us ≡ facts)
  pairs-complete [] [] h = ([], within-nil, refl, refl)
  pairs-complete [] (f ∷ fs) h = absurd h
  pairs-complete (n ∷ []) fs h = absurd h
  pairs-complete (n ∷ m ∷ ns) [] h = absurd h
  pairs-complete (n ∷ m ∷ ns) (f ∷ fs) h =
      let r = pairs-complete ns fs h.1 in (
        record { bytes = n ∷ m ∷ []; fact = f } ∷ r.0,
        within-cons (every_place-in places_in ls n h.0.0 h.0.1 (every_place-in (λ m f. one (n ∷ m ∷ []) f) h.0.0 m f h.0.2 (Memᴰ.head refl))) r.1,
        ap (λ k. n ∷ m ∷ k) r.2,
        ap (◌∷◌ f) r.3,
      )

  pairs-rising : Rising BytesBefore (pairs ls)
  pairs-rising = every_place-rising BytesBefore places_in ls (λ n l. inner n l) outer
    where
      inner : (n : ℕ) (l : List (Subgoal A)) → Rising BytesBefore (places_in n l)
      inner n l = every_place-rising BytesBefore (λ m f. one (n ∷ m ∷ []) f) l (λ m f. (λ t i. absurd (Memᴰ.not-nil i), tt))
          (λ m k h f g x y i j. rw (Memᴰ.eq_of_singleton i, Memᴰ.eq_of_singleton j) (inr (refl, inl h)))

      outer : (n k : ℕ) → n < k → (l m : List (Subgoal A)) (x y : Target A) → x ∈ places_in n l → y ∈ places_in k m → BytesBefore x y
      outer n k h l m x y i j =
          let v = every_place-out (λ p f. one (n ∷ p ∷ []) f) l i in
          let w = every_place-out (λ p f. one (k ∷ p ∷ []) f) m j in
          rw (Memᴰ.eq_of_singleton v.3, Memᴰ.eq_of_singleton w.3) (inl h)

  pub pairs-names : Names (AtPairs ls) 2 (pairs ls)
  pairs-names = record { sound = pairs-sound; complete = pairs-complete; even = λ t m. let w = pairs-out t m in ap (λ u. length u.bytes) w.6; rising = pairs-rising }
