-- What stands where in a list.
use mathlib.Core.Path.{◌≡◌, refl, ap₂, ap, ◌∙◌}
use mathlib.Core.Option.{some, none}
use mathlib.Core.List.{List, [], ◌∷◌, map, ◌++◌}
use Prim.Native.Nat.{ℕ, zero, suc, ◌<◌, ◌+◌}
use native.Mathlib.Omega.{arith}
use lib.ListN.{length, drop, take}
use Rattle.spec.specs.Summaries.{place}

-- A place up to the length has something.
pub place-some : {A : Type 0} (l : List A) (i : ℕ) → i < length l → (a : A) × (place l (suc i) ≡ some a)
place-some [] i h = absurd (omega arith)
place-some (a ∷ l) zero h = (a, refl)
place-some (a ∷ l) (suc i) h = place-some l i (omega arith)

module _ {A : Type 0} where
  pub nothing : {P : Type 0} {a : A} → none ≡ some a → P
  nothing e = absurd (let z : ◌≡◌ {A = ℕ} 0 1 = cc in omega arith)

  -- Places count from 1.
  pub no_place : {P : Type 0} {a : A} (l : List A) → place l zero ≡ some a → P
  no_place [] e = nothing e
  no_place (b ∷ l) e = nothing e

  -- What stands at a place is followed by the rest.
  pub place-drop : (l : List A) (i : ℕ) (a : A) → place l (suc i) ≡ some a → drop i l ≡ a ∷ drop (suc i) l
  place-drop [] i a e = nothing e
  place-drop (b ∷ l) zero a e = cc
  place-drop (b ∷ l) (suc i) a e = place-drop l i a e

  pub place-less : (l : List A) (i : ℕ) (a : A) → place l (suc i) ≡ some a → i < length l
  place-less [] i a e = nothing e
  place-less (b ∷ l) zero a e = omega arith
  place-less (b ∷ l) (suc i) a e = let less = place-less l i a e in omega arith

  pub place_map : {B : Type 0} (f : A → B) (l : List A) (i : ℕ) (a : A) → place l i ≡ some a → place (map f l) i ≡ some (f a)
  place_map f [] i a e = nothing e
  place_map f (b ∷ l) zero a e = nothing e
  place_map f (b ∷ l) (suc zero) a e = cc
  place_map f (b ∷ l) (suc (suc i)) a e = place_map f l (suc i) a e

  -- what stands in the first list, and behind it
  pub place-before : (l m : List A) (k : ℕ) → k < length l → place (l ++ m) (suc k) ≡ place l (suc k)
  place-before [] m k h = absurd (omega arith)
  place-before (b ∷ l) m zero h = refl
  place-before (b ∷ l) m (suc k) h = place-before l m k (omega arith)

  pub place-behind : (l m : List A) (k : ℕ) → place (l ++ m) (suc (length l + k)) ≡ place m (suc k)
  place-behind [] m k = ap (λ n. place m (suc n)) (let e : 0 + k ≡ k = omega arith in e)
  place-behind (b ∷ l) m k = let e : suc (length l) + k ≡ suc (length l + k) = omega arith in ap (λ n. place (b ∷ l ++ m) (suc n)) e ∙ place-behind l m k

  -- Two lists as long as each other, with the same at each place, are the same.
  pub places_same : (l m : List A) → length l ≡ length m → ((i : ℕ) (a b : A) → place l (suc i) ≡ some a → place m (suc i) ≡ some b → a ≡ b) → l ≡ m
  places_same [] [] e h = refl
  places_same [] (b ∷ m) e h = absurd (omega arith)
  places_same (a ∷ l) [] e h = absurd (omega arith)
  places_same (a ∷ l) (b ∷ m) e h = ap₂ ◌∷◌ (h 0 a b refl refl) (places_same l m (omega arith) (λ i. h (suc i)))

-- the elements up to a place, and the one there
pub take-place : {A : Type 0} (l : List A) (i : ℕ) (a : A) → place l (suc i) ≡ some a → take (suc i) l ≡ take i l ++ (a ∷ [])
take-place [] i a p = nothing p
take-place (b ∷ l) zero a p = let same : b ≡ a = cc in ap (λ c. c ∷ []) same
take-place (b ∷ l) (suc i) a p = ap (◌∷◌ b) (take-place l i a p)
