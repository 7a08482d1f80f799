-- A place among uses that stand one after the other, and the pair of a use and a place in it: the same targets, in the same order.
use mathlib.Core.Path.{◌≡◌, refl, sym, ap, ◌∙◌, subst}
use mathlib.Core.Logic.{◌⊎◌, inl, inr}
use mathlib.Core.Bool.{cond}
use mathlib.Core.Option.{some, none-ne-some, some-injective}
use mathlib.Core.List.{List, [], ◌∷◌, map}
use Prim.Native.Nat.{ℕ, zero, suc, ◌+◌, ◌-◌, ◌<◌}
use native.Mathlib.Omega.{arith}
use native.Mathlib.Decide.{dec_lt}
use lib.ListN.{length}
use borrow.Author.Tests.{lt-ltb, le-ltb}
use Rattle.spec.specs.Summaries.{place, joined}
use Rattle.spec.specs.Order.{ListBefore}
use Rattle.spec.specs.Answer.{AtPlaces, AtPairs}
use Rattle.spec.proofs.Lists.Counted.{place-within}
use Rattle.spec.proofs.Lists.Places.{place-before, place-behind}
use Rattle.search_meaning.specs.Uses.{use_at, within_at, pairs_of}

module _ {A : Type 0} where
  pub use-here : (m : List A) (ls : List (List A)) (k : ℕ) → k < length m → (use_at (m ∷ ls) k ≡ 0) × (within_at (m ∷ ls) k ≡ k)
  use-here m ls k h = let t = lt-ltb k (length m) h in (ap (λ b. cond b 0 (suc (use_at ls (k - length m)))) t, ap (λ b. cond b k (within_at ls (k - length m))) t)

  pub use-later : (m : List A) (ls : List (List A)) (k : ℕ) → (use_at (m ∷ ls) (length m + k) ≡ suc (use_at ls k)) × (within_at (m ∷ ls) (length m + k) ≡ within_at ls k)
  use-later m ls k =
      let t = le-ltb (length m + k) (length m) (omega arith) in
      let e : length m + k - length m ≡ k = omega arith in (
        ap (λ b. cond b 0 (suc (use_at ls (length m + k - length m)))) t ∙ ap (λ n. suc (use_at ls n)) e,
        ap (λ b. cond b (length m + k) (within_at ls (length m + k - length m))) t ∙ ap (within_at ls) e,
      )

  abbrev Paired : List (List A) → ℕ → ℕ → A → Type 0
  Paired ls u w a = (m : List A) × (place ls (suc u) ≡ some m) × (place m (suc w) ≡ some a)

  pub place-paired : (ls : List (List A)) (k : ℕ) (a : A) → place (joined ls) (suc k) ≡ some a → Paired ls (use_at ls k) (within_at ls k) a
  place-paired [] k a e = absurd (none-ne-some a e)
  place-paired (m ∷ ls) k a e = go (dec_lt k (length m)) (place-paired ls (k - length m) a)
    where
      go : Dec (k < length m) → (place (joined ls) (suc (k - length m)) ≡ some a → Paired ls (use_at ls (k - length m)) (within_at ls (k - length m)) a) → Paired (m ∷ ls) (use_at (m ∷ ls) k) (within_at (m ∷ ls) k) a
      go (yes h) rest = let w = use-here m ls k h in rw (w.0, w.1) (m, refl, sym (place-before m (joined ls) k h) ∙ e)
      go (no h) rest =
          let n : k ≡ length m + (k - length m) = omega arith in
          let w = use-later m ls (k - length m) in
          let r = rest (sym (place-behind m (joined ls) (k - length m)) ∙ ap (λ j. place (joined (m ∷ ls)) (suc j)) (sym n) ∙ e) in
          subst (λ j. Paired (m ∷ ls) (use_at (m ∷ ls) j) (within_at (m ∷ ls) j) a) (sym n) (rw (w.0, w.1) r)

  pub paired-place : (ls : List (List A)) (u w : ℕ) (a : A) → Paired ls u w a → (k : ℕ) × (use_at ls k ≡ u) × (within_at ls k ≡ w) × (place (joined ls) (suc k) ≡ some a)
  paired-place [] u w a p = absurd (none-ne-some p.0 p.1)
  paired-place (m ∷ ls) zero w a p =
      let here : place m (suc w) ≡ some a = ap (λ l. place l (suc w)) (some-injective m p.0 p.1) ∙ p.2 in
      let h = (place-within m (suc w) a here).1 in
      let r = use-here m ls w (omega arith) in
      (w, r.0, r.1, place-before m (joined ls) w (omega arith) ∙ here)
  paired-place (m ∷ ls) (suc u) w a p =
      let r = paired-place ls u w a p in
      let q = use-later m ls r.0 in
      (length m + r.0, q.0 ∙ ap suc r.1, q.1 ∙ r.2, place-behind m (joined ls) r.0 ∙ r.3)

  -- a later place is in a later list, or later in the same
  abbrev Later : List (List A) → ℕ → ℕ → Type 0
  Later ls j k = (use_at ls j < use_at ls k) ⊎ ((use_at ls j ≡ use_at ls k) × (within_at ls j < within_at ls k))

  later : (ls : List (List A)) (j k : ℕ) → j < k → Later ls j k
  later [] j k h = inr (refl, h)
  later (m ∷ ls) j k h = go (dec_lt j (length m)) (dec_lt k (length m)) (later ls (j - length m) (k - length m))
    where
      go : Dec (j < length m) → Dec (k < length m) → (j - length m < k - length m → Later ls (j - length m) (k - length m)) → Later (m ∷ ls) j k
      go (yes a) (yes b) rest = let v = use-here m ls j a in let w = use-here m ls k b in rw (v.0, v.1, w.0, w.1) (inr (refl, h))
      go (yes a) (no b) rest =
          let n : k ≡ length m + (k - length m) = omega arith in
          let v = use-here m ls j a in
          let w = use-later m ls (k - length m) in
          inl (subst (λ i. use_at (m ∷ ls) j < use_at (m ∷ ls) i) (sym n) (omega (arith, v.0, w.0)))
      go (no a) (yes b) rest = absurd (omega arith)
      go (no a) (no b) rest =
          let i : j ≡ length m + (j - length m) = omega arith in
          let n : k ≡ length m + (k - length m) = omega arith in
          let v = use-later m ls (j - length m) in
          let w = use-later m ls (k - length m) in
          subst (λ z. Later (m ∷ ls) z k) (sym i) (subst (Later (m ∷ ls) (length m + (j - length m))) (sym n) (rw (v.0, v.1, w.0, w.1) (up (rest (omega arith)))))
        where
          up : Later ls (j - length m) (k - length m) → (suc (use_at ls (j - length m)) < suc (use_at ls (k - length m))) ⊎ ((suc (use_at ls (j - length m)) ≡ suc (use_at ls (k - length m))) × (within_at ls (j - length m) < within_at ls (k - length m)))
          up (inl l) = inl (omega arith)
          up (inr l) = inr (ap suc l.0, l.1)

  module _ (ls : List (List A)) where
    -- pairs are in order as places are
    pub pairs-before : (l m : List ℕ) → ListBefore ◌<◌ l m → ListBefore ◌<◌ (pairs_of ls l) (pairs_of ls m)
    pairs-before [] [] h = h
    pairs-before [] (k ∷ m) h = tt
    pairs-before (j ∷ l) [] h = h
    pairs-before (j ∷ l) (k ∷ m) (inl h) = go (later ls j k h)
      where
        go : Later ls j k → ListBefore ◌<◌ (pairs_of ls (j ∷ l)) (pairs_of ls (k ∷ m))
        go (inl a) = inl (omega arith)
        go (inr a) = inr (ap suc a.0, inl (omega arith))
    pairs-before (j ∷ l) (k ∷ m) (inr h) = inr (ap (λ z. suc (use_at ls z)) h.0, inr (ap (λ z. suc (within_at ls z)) h.0, pairs-before l m h.1))

    -- pairs name what places name
    pub places-pairs : (l : List ℕ) (gs : List A) → AtPlaces (joined ls) (map suc l) gs → AtPairs ls (pairs_of ls l) gs
    places-pairs [] [] h = tt
    places-pairs [] (a ∷ gs) h = absurd h
    places-pairs (k ∷ l) [] h = absurd h
    places-pairs (k ∷ l) (a ∷ gs) h = (place-paired ls k a h.0, places-pairs l gs h.1)

    pub pairs-places : (bytes : List ℕ) (gs : List A) → AtPairs ls bytes gs → (l : List ℕ) × (pairs_of ls l ≡ bytes) × AtPlaces (joined ls) (map suc l) gs
    pairs-places [] [] h = ([], refl, tt)
    pairs-places [] (a ∷ gs) h = absurd h
    pairs-places (n ∷ []) gs h = absurd h
    pairs-places (n ∷ m ∷ ns) [] h = absurd h
    pairs-places (n ∷ m ∷ ns) (a ∷ gs) h = go n m h.0 (pairs-places ns gs h.1)
      where
        go : (n m : ℕ) → ((l : List A) × (place ls n ≡ some l) × (place l m ≡ some a)) → (l : List ℕ) × (pairs_of ls l ≡ ns) × AtPlaces (joined ls) (map suc l) gs
            → (l : List ℕ) × (pairs_of ls l ≡ n ∷ m ∷ ns) × AtPlaces (joined ls) (map suc l) (a ∷ gs)
        go zero m w r = absurd (omega (arith, (place-within ls zero w.0 w.1).0))
        go (suc n) zero w r = absurd (omega (arith, (place-within w.0 zero a w.2).0))
        go (suc n) (suc m) w r = let k = paired-place ls n m a w in (k.0 ∷ r.0, ap₃ k.1 k.2 r.1, (k.3, r.2))
          where
            ap₃ : {j i n m : ℕ} {l ns : List ℕ} → j ≡ n → i ≡ m → l ≡ ns → suc j ∷ suc i ∷ l ≡ suc n ∷ suc m ∷ ns
            ap₃ p q r = cc
