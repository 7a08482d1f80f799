-- Numbers one after the other, and the places of a list in their order.
use mathlib.Core.Path.{◌≡◌, sym, ap, subst}
use mathlib.Core.Logic.{◌⊎◌, inl, inr}
use mathlib.Core.Option.{Option, some, none, none-ne-some, some-injective}
use mathlib.Core.List.Memᴰ
use mathlib.Core.List.{List, [], ◌∷◌}
use Prim.Native.Nat.{ℕ, zero, suc, ◌+◌, ◌≤◌, ◌<◌}
use native.Mathlib.Omega.{arith}
use native.Mathlib.Nat.{eq-or-lt_of_le}
use lib.ListN.{length}
use Rattle.spec.specs.Words.{◌∈◌}
use Rattle.spec.specs.Summaries.{place}
use Rattle.spec.proofs.Lists.Gathered.{gather, gather-in, gather-out, from, from_out}
use Rattle.spec.proofs.Lists.Rising.{Rising, rising-gather}

-- m numbers from n on
abbrev pub counted : ℕ → ℕ → List ℕ
counted n zero = []
counted n (suc m) = n ∷ counted (suc n) m

pub counted-out : (n m i : ℕ) → i ∈ counted n m → (n ≤ i) × (i < n + m)
counted-out n zero i h = absurd (Memᴰ.not-nil h)
counted-out n (suc m) i (Memᴰ.head e) = (omega arith, omega arith)
counted-out n (suc m) i (Memᴰ.tail h) = let r = counted-out (suc n) m i h in (omega arith, omega arith)

pub counted-in : (n m i : ℕ) → n ≤ i → i < n + m → i ∈ counted n m
counted-in n zero i h k = absurd (omega arith)
counted-in n (suc m) i h k = go (counted-in (suc n) m i) (eq-or-lt_of_le h)
  where
    go : (suc n ≤ i → i < suc n + m → i ∈ counted (suc n) m) → (n ≡ i) ⊎ (n < i) → i ∈ counted n (suc m)
    go rest (inl e) = Memᴰ.head (sym e)
    go rest (inr l) = Memᴰ.tail (rest l (omega arith))

pub counted-rising : (n m : ℕ) → Rising ◌<◌ (counted n m)
counted-rising n zero = tt
counted-rising n (suc m) = (λ i h. (counted-out (suc n) m i h).0, counted-rising (suc n) m)

-- what has something at it is a place of the list
pub place-within : {A : Type 0} (l : List A) (n : ℕ) (a : A) → place l n ≡ some a → (1 ≤ n) × (n ≤ length l)
place-within [] n a e = absurd (none-ne-some a e)
place-within (b ∷ l) zero a e = absurd (none-ne-some a e)
place-within (b ∷ l) (suc zero) a e = (omega arith, omega arith)
place-within (b ∷ l) (suc (suc n)) a e = let r = place-within l (suc n) a e in (omega arith, omega arith)

pub from_one : {A : Type 0} {a : A} (l : List A) → a ∈ l → (n : ℕ) × (place l (suc n) ≡ some a)
from_one (b ∷ l) (Memᴰ.head e) = (zero, ap some (sym e))
from_one (b ∷ l) (Memᴰ.tail i) = let w = from_one l i in (suc w.0, w.1)
from_one {A = A} {a = a} [] x' = elim x' [ ]

-- each member has a place, and what has a place is a member
pub place_of : {A : Type 0} {a : A} (l : List A) → a ∈ l → (n : ℕ) × (place l n ≡ some a)
place_of l m = let w = from_one l m in (suc w.0, w.1)

pub place_in : {A : Type 0} {a : A} (l : List A) (n : ℕ) → place l n ≡ some a → a ∈ l
place_in {a = a} [] n e = absurd (none-ne-some a e)
place_in {a = a} (b ∷ l) zero e = absurd (none-ne-some a e)
place_in {a = a} (b ∷ l) (suc zero) e = Memᴰ.head (sym (some-injective b a e))
place_in (b ∷ l) (suc (suc n)) e = Memᴰ.tail (place_in l (suc n) e)

-- What each place of a list makes of the number and what stands there, in the order of the places.
abbrev pub every_place : {A B : Type 0} → (ℕ → A → List B) → List A → List B
every_place f l = gather (λ n. from (f n) (place l n)) (counted 1 (length l))

pub every_place-in : {A B : Type 0} (f : ℕ → A → List B) (l : List A) (n : ℕ) (a : A) {b : B} → place l n ≡ some a → b ∈ f n a → b ∈ every_place f l
every_place-in f l n a {b} e i =
    let w = place-within l n a e in
    gather-in (λ n. from (f n) (place l n)) (counted 1 (length l)) (counted-in 1 (length l) n w.0 (omega arith)) (subst (λ o. b ∈ from (f n) o) (sym e) i)

pub every_place-out : {A B : Type 0} (f : ℕ → A → List B) (l : List A) {b : B} → b ∈ every_place f l → (n : ℕ) × (a : A) × (place l n ≡ some a) × (b ∈ f n a)
every_place-out f l m =
    let n = gather-out (λ n. from (f n) (place l n)) (counted 1 (length l)) m in
    let a = from_out (f n.0) (place l n.0) n.2 in
    (n.0, a.0, a.1, a.2)

pub every_place-rising : {A B : Type 0} (under : B → B → Type 0) (f : ℕ → A → List B) (l : List A) → ((n : ℕ) (a : A) → Rising under (f n a))
    → ((n m : ℕ) → n < m → (a b : A) (x y : B) → x ∈ f n a → y ∈ f m b → under x y) → Rising under (every_place f l)
every_place-rising {A} {B} under f l part across = rising-gather ◌<◌ under (λ n. from (f n) (place l n)) (counted 1 (length l)) (counted-rising 1 (length l)) (λ n i. one n (place l n))
    (λ n m i j h x y p q. let a = from_out (f n) (place l n) p in let b = from_out (f m) (place l m) q in across n m h a.0 b.0 x y a.2 b.2)
  where
    one : (n : ℕ) (o : Option A) → Rising under (from (f n) o)
    one n none = tt
    one n (some a) = part n a
