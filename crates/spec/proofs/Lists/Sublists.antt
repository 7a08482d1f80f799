-- The rising lists from the elements of a rising list: shorter first, those of one length by their elements.
use mathlib.Core.Path.{◌≡◌, refl, sym, ap, subst}
use mathlib.Core.Logic.{◌⊎◌, inl, inr}
use mathlib.Core.List.Memᴰ
use mathlib.Core.List.{List, [], ◌∷◌, ◌++◌, map}
use Prim.Native.Nat.{ℕ, zero, suc, ◌≤◌}
use native.Mathlib.Omega.{arith}
use lib.ListN.{length}
use Rattle.spec.specs.Words.{◌∈◌}
use Rattle.spec.specs.Order.{ListBefore}
use Rattle.spec.proofs.Lists.Strict.{Strict}
use Rattle.spec.proofs.Lists.Rising.{Rising, rising-append, rising-map}

-- with n elements, those that have the first one first
abbrev pub sublists : {A : Type 0} → ℕ → List A → List (List A)
sublists zero l = [] ∷ []
sublists (suc n) [] = []
sublists (suc n) (a ∷ l) = map (◌∷◌ a) (sublists n l) ++ sublists (suc n) l

-- what a sublist is, and that there is none with more elements than the list
pub record Sublist {A : Type 0} (Before : A → A → Type 0) (n : ℕ) (l m : List A) : Type 0 where
  pub long : length m ≡ n
  pub within : (a : A) → a ∈ m → a ∈ l
  pub rising : Rising Before m
  pub few : n ≤ length l

module _ {A : Type 0} (Before : A → A → Type 0) where
  pub sublist : (n : ℕ) (l : List A) → Rising Before l → (m : List A) → m ∈ sublists n l → Sublist Before n l m
  sublist zero l r m i = subst (Sublist Before zero l) (sym (Memᴰ.eq_of_singleton i)) record { long = refl; within = λ a j. absurd (Memᴰ.not-nil j); rising = tt; few = omega arith }
  sublist (suc n) [] r m i = absurd (Memᴰ.not-nil i)
  sublist (suc n) (a ∷ l) r m i = go (sublist n l r.1) (sublist (suc n) l r.1 m) (Memᴰ.append_cases (map (◌∷◌ a) (sublists n l)) i)
    where
      go : ((k : List A) → k ∈ sublists n l → Sublist Before n l k) → (m ∈ sublists (suc n) l → Sublist Before (suc n) l m)
          → (m ∈ map (◌∷◌ a) (sublists n l)) ⊎ (m ∈ sublists (suc n) l) → Sublist Before (suc n) (a ∷ l) m
      go taken left (inr j) = let s = left j in record { long = s.long; within = λ b h. Memᴰ.tail (s.within b h); rising = s.rising; few = omega (arith, s.few) }
      go taken left (inl j) = subst (Sublist Before (suc n) (a ∷ l)) w.2 record { long = ap suc s.long; within = within'; rising = (λ b h. r.0 b (s.within b h), s.rising); few = omega (arith, s.few) }
        where
          w : (k : List A) × (k ∈ sublists n l) × (a ∷ k ≡ m)
          w = Memᴰ.of_map (◌∷◌ a) (sublists n l) j

          s : Sublist Before n l w.0
          s = taken w.0 w.1

          within' : (b : A) → b ∈ (a ∷ w.0) → b ∈ (a ∷ l)
          within' b (Memᴰ.head e) = Memᴰ.head e
          within' b (Memᴰ.tail h) = Memᴰ.tail (s.within b h)

module _ {A : Type 0} {Before : A → A → Type 0} (o : Strict Before) where
  -- each rising list from its elements is one
  pub is-sublist : (l m : List A) → Rising Before l → Rising Before m → ((a : A) → a ∈ m → a ∈ l) → m ∈ sublists (length m) l
  is-sublist l [] r p h = Memᴰ.head refl
  is-sublist [] (a ∷ m) r p h = absurd (Memᴰ.not-nil (h a (Memᴰ.head refl)))
  is-sublist (b ∷ l) (a ∷ m) r p h = go (h a (Memᴰ.head refl)) (is-sublist l m r.1 p.1) (is-sublist l (a ∷ m) r.1 p)
    where
      later : (c : A) → Before b c → c ∈ (b ∷ l) → c ∈ l
      later c k (Memᴰ.head e) = absurd (o.never b (rw e at k))
      later c k (Memᴰ.tail i) = i

      go : a ∈ (b ∷ l) → (((c : A) → c ∈ m → c ∈ l) → m ∈ sublists (length m) l) → (((c : A) → c ∈ (a ∷ m) → c ∈ l) → (a ∷ m) ∈ sublists (suc (length m)) l)
          → (a ∷ m) ∈ (map (◌∷◌ b) (sublists (length m) l) ++ sublists (suc (length m)) l)
      go (Memᴰ.head e) taken left =
          Memᴰ.append_left (sublists (suc (length m)) l)
          (Memᴰ.cast (ap (λ c. c ∷ m) e) (Memᴰ.map (◌∷◌ b) (taken (λ c i. later c (rw e at (p.0 c i)) (h c (Memᴰ.tail i))))))
      go (Memᴰ.tail j) taken left = Memᴰ.append_right (map (◌∷◌ b) (sublists (length m) l)) (left all)
        where
          all : (c : A) → c ∈ (a ∷ m) → c ∈ l
          all c (Memᴰ.head e) = Memᴰ.cast e j
          all c (Memᴰ.tail i) = later c (o.trans b a c (r.0 a j) (p.0 c i)) (h c (Memᴰ.tail i))

  -- those of one length rise
  pub sublists-rising : (n : ℕ) (l : List A) → Rising Before l → Rising (ListBefore Before) (sublists n l)
  sublists-rising zero l r = (λ m i. absurd (Memᴰ.not-nil i), tt)
  sublists-rising (suc n) [] r = tt
  sublists-rising (suc n) (a ∷ l) r = rising-append (ListBefore Before) (map (◌∷◌ a) (sublists n l)) (sublists (suc n) l)
      (rising-map (ListBefore Before) (ListBefore Before) (◌∷◌ a) (sublists n l) (sublists-rising n l r.1) (λ k m i j h. inr (refl, h)))
      (sublists-rising (suc n) l r.1) across
    where
      before : (k m : List A) → Sublist Before (suc n) l m → ListBefore Before (a ∷ k) m
      before k [] s = let z : ⊥ = omega (arith, s.long) in absurd z
      before k (b ∷ m) s = inl (r.0 b (s.within b (Memᴰ.head refl)))

      across : (k m : List A) → k ∈ map (◌∷◌ a) (sublists n l) → m ∈ sublists (suc n) l → ListBefore Before k m
      across k m i j =
          let w = Memᴰ.of_map (◌∷◌ a) (sublists n l) i in
          subst (λ z. ListBefore Before z m) w.2 (before w.0 m (sublist Before (suc n) l r.1 m j))
