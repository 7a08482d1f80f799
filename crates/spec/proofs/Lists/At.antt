-- What stands at a number of a list, the number at which an element first stands, and how many elements pass a test.
use mathlib.Core.Path.{◌≡◌, refl, sym, ap}
use mathlib.Core.Bool.{Bool, true, false, cond, not}
use mathlib.Core.Option.{some, none-ne-some, some-injective}
use mathlib.Core.List.Memᴰ
use mathlib.Core.List.{List, [], ◌∷◌, map}
use Prim.Native.Nat.{ℕ, zero, suc, ◌+◌, ◌≤◌, ◌<◌}
use native.Mathlib.Omega.{arith}
use lib.Dec.{eqb, eqb→eq, not_T, T_not}
use lib.ListN.{length, get_or}
use borrow.Author.Tests.{eqb-true, eqb-false, eq-eqb}
use Rattle.spec.specs.Words.{◌∈◌}
use Rattle.spec.specs.Summaries.{place}
use Rattle.spec.proofs.Lists.Rising.{Rising}
use Rattle.spec.proofs.Lists.Gathered.{passing, passing-in, passing-out}
use Rattle.spec.proofs.Lists.Places.{nothing}

module _ {A : Type 0} (d : A) where
  pub get_or-place : (l : List A) (n : ℕ) → n < length l → place l (suc n) ≡ some (get_or l n d)
  get_or-place [] n h = absurd (omega arith)
  get_or-place (a ∷ l) zero h = refl
  get_or-place (a ∷ l) (suc n) h = get_or-place l n (omega arith)

  pub place-get_or : (l : List A) (n : ℕ) (a : A) → place l (suc n) ≡ some a → (n < length l) × (get_or l n d ≡ a)
  place-get_or [] n a e = absurd (none-ne-some a e)
  place-get_or (b ∷ l) zero a e = (omega arith, some-injective b a e)
  place-get_or (b ∷ l) (suc n) a e = let w = place-get_or l n a e in (omega arith, w.1)

  pub get_or-in : (l : List A) (n : ℕ) → n < length l → get_or l n d ∈ l
  get_or-in [] n h = absurd (omega arith)
  get_or-in (a ∷ l) zero h = Memᴰ.head refl
  get_or-in (a ∷ l) (suc n) h = Memᴰ.tail (get_or-in l n (omega arith))

  pub in-get_or : {a : A} (l : List A) → a ∈ l → (n : ℕ) × (n < length l) × (get_or l n d ≡ a)
  in-get_or (b ∷ l) (Memᴰ.head e) = (0, omega arith, sym e)
  in-get_or [] x' = elim x' [ ]
  in-get_or (b ∷ l) (Memᴰ.tail m) = let w = in-get_or l m in (suc w.0, omega arith, w.2)

pub rising-get_or : {A : Type 0} (before : A → A → Type 0) (d : A) (l : List A) → Rising before l → (u v : ℕ) → u < v → v < length l → before (get_or l u d) (get_or l v d)
rising-get_or before d [] r u v h k = absurd (omega arith)
rising-get_or before d (a ∷ l) r zero zero h k = absurd (omega arith)
rising-get_or before d (a ∷ l) r zero (suc v) h k = r.0 (get_or l v d) (get_or-in d l v (omega arith))
rising-get_or before d (a ∷ l) r (suc u) zero h k = absurd (omega arith)
rising-get_or before d (a ∷ l) r (suc u) (suc v) h k = rising-get_or before d l r.1 u v (omega arith) (omega arith)

-- One choice for each of the numbers below n, in a list.
pub choices : (P : ℕ → ℕ → Type 0) (n : ℕ) → ((i : ℕ) → i < n → (k : ℕ) × P i k) → (ks : List ℕ) × (length ks ≡ n) × ((i : ℕ) → i < n → P i (get_or ks i 0))
choices P zero f = ([], refl, λ i h. absurd (omega arith))
choices P (suc n) f = go (f 0 (omega arith)) (choices (λ i. P (suc i)) n (λ i h. f (suc i) (omega arith)))
  where
    go : (k : ℕ) × P 0 k → (ks : List ℕ) × (length ks ≡ n) × ((i : ℕ) → i < n → P (suc i) (get_or ks i 0)) → (ks : List ℕ) × (length ks ≡ suc n) × ((i : ℕ) → i < suc n → P i (get_or ks i 0))
    go k rest = (k.0 ∷ rest.0, ap suc rest.1, at)
      where
        at : (i : ℕ) → i < suc n → P i (get_or (k.0 ∷ rest.0) i 0)
        at zero h = k.1
        at (suc i) h = rest.2 i (omega arith)

-- where a number first stands
abbrev pub index : ℕ → List ℕ → ℕ
index u [] = 0
index u (n ∷ ns) = cond (eqb n u) 0 (suc (index u ns))

pub index-place : {B : Type 0} (f : ℕ → B) (u : ℕ) (ns : List ℕ) → u ∈ ns → place (map f ns) (suc (index u ns)) ≡ some (f u)
index-place f u [] m = absurd (Memᴰ.not-nil m)
index-place {B} f u (n ∷ ns) m = go (eqb n u) refl m (index-place f u ns)
  where
    go : (b : Bool) → eqb n u ≡ b → u ∈ (n ∷ ns) → (u ∈ ns → place (map f ns) (suc (index u ns)) ≡ some (f u)) → place (map f (n ∷ ns)) (suc (cond b 0 (suc (index u ns)))) ≡ some (f u)
    go true e m rest = ap (λ z. some (f z)) (eqb-true n u e)
    go false e (Memᴰ.head p) rest = absurd (eqb-false n u e (sym p))
    go false e (Memᴰ.tail i) rest = rest i

-- Those that pass a test, counted.
pub passing-split : {A : Type 0} (p : A → Bool) (l : List A) → length l ≡ length (passing p l) + length (passing (λ a. not (p a)) l)
passing-split p [] = refl
passing-split {A} p (a ∷ l) = go (p a) (passing-split p l)
  where
    go : (b : Bool) → length l ≡ length (passing p l) + length (passing (λ a. not (p a)) l)
        → suc (length l) ≡ length (cond b (a ∷ passing p l) (passing p l)) + length (cond (not b) (a ∷ passing (λ a. not (p a)) l) (passing (λ a. not (p a)) l))
    go true e = omega arith
    go false e = omega arith

-- of a part no more pass
pub passing-part : {A : Type 0} (p r : A → Bool) (l : List A) → length (passing p (passing r l)) ≤ length (passing p l)
passing-part p r [] = omega arith
passing-part {A} p r (a ∷ l) = go (r a) (p a) refl (passing-part p r l)
  where
    go : (b c : Bool) → p a ≡ c → length (passing p (passing r l)) ≤ length (passing p l) → length (passing p (cond b (a ∷ passing r l) (passing r l))) ≤ length (cond c (a ∷ passing p l) (passing p l))
    go true true e h = rw e (omega arith)
    go true false e h = rw e h
    go false true e h = omega arith
    go false false e h = h

-- a list without a number
abbrev other : ℕ → ℕ → Bool
other r u = not (eqb u r)

abbrev pub without : ℕ → List ℕ → List ℕ
without r l = passing (other r) l

module _ (r : ℕ) (l : List ℕ) where
  pub without_in : (u : ℕ) → u ∈ l → (u ≡ r → ⊥) → u ∈ without r l
  without_in u i n = passing-in (other r) l i (not_T (eqb u r) (λ t. n (eqb→eq u r t)))

  pub without-out : (u : ℕ) → u ∈ without r l → (u ∈ l) × (u ≡ r → ⊥)
  without-out u i = let w = passing-out (other r) l i in (w.0, λ e. T_not (eqb u r) w.1 (rw (eq-eqb u r e) tt))

  pub without-few : length (without r l) ≤ length l
  without-few = omega (arith, passing-split (other r) l)

  pub without_fewer : r ∈ l → length (without r l) < length l
  without_fewer i = omega (arith, passing-split (other r) l, some (passing (λ u. not (other r u)) l) (passing-in (λ u. not (other r u)) l i (rw (eq-eqb r r refl) tt)))
    where
      some : (k : List ℕ) → r ∈ k → 0 < length k
      some [] j = absurd (Memᴰ.not-nil j)
      some (n ∷ k) j = omega arith

pub map_get : {A B : Type 0} (f : A → B) (l : List A) (a : ℕ) (d : A) (e : B) → a < length l → get_or (map f l) a e ≡ f (get_or l a d)
map_get f [] a d e h = absurd (omega arith)
map_get f (x ∷ l) zero d e h = refl
map_get f (x ∷ l) (suc a) d e h = map_get f l a d e (omega arith)

-- the term at a place among others
pub mapped : {A : Type 0} (f : A → ℕ) (l : List A) (k d : ℕ) (a : A) → place l (suc k) ≡ some a → get_or (map f l) k d ≡ f a
mapped f [] k d a p = nothing p
mapped f (b ∷ l) zero d a p = let same : b ≡ a = cc in ap f same
mapped f (b ∷ l) (suc k) d a p = mapped f l k d a p

pub empty : (t : List ℕ) → length t ≤ 0 → t ≡ []
empty [] h = refl
empty (y ∷ t) h = absurd (omega arith)

pub none_in : (l : List ℕ) (u : ℕ) → length l ≤ 0 → u ∈ l → ⊥
none_in [] u h i = Memᴰ.not-nil i
none_in (v ∷ l) u h i = omega arith
