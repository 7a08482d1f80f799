-- Finite tests: all numbers below a bound pass or one does not; each element of a list passes or one does not.
use mathlib.Core.Path.{◌≡◌, refl}
use mathlib.Core.Logic.Dec
use mathlib.Core.Logic.{◌⊎◌, inl, inr, ◌↔◌}
use mathlib.Core.List.Memᴰ
use mathlib.Core.List.{List, [], ◌∷◌}
use Prim.Native.Nat.{ℕ, zero, suc, ◌<◌}
use native.Mathlib.Omega.{arith}
use native.Mathlib.Decide.{ℕ_discrete, map_dec}
use Rattle.spec.specs.Words.{◌∈◌}

-- Two contraries of which one holds: it is decided which, and each fails exactly where the other holds.
pub decided : {A B : Type 0} → A ⊎ B → (B → A → ⊥) → Dec A
decided (inl a) h = yes a
decided (inr b) h = no (h b)

pub contrary : {A B : Type 0} → A ⊎ B → (B → A → ⊥) → (A → ⊥) ↔ B
contrary (inl a) h = (λ f. absurd (f a), h)
contrary (inr b) h = (λ f. b, h)

pub positive : {A : Type 0} → Dec A → ((A → ⊥) → ⊥) → A
positive (yes a) h = a
positive (no f) h = absurd (h f)

module _ (P : ℕ → Type 0) (test : (i : ℕ) → Dec (P i)) where
  pub below_or_not : (n : ℕ) → ((i : ℕ) → i < n → P i) ⊎ ((i : ℕ) × (i < n) × (P i → ⊥))
  below_or_not zero = inl (λ i h. absurd (omega arith))
  below_or_not (suc n) = step (below_or_not n) (test n)
    where
      step : ((i : ℕ) → i < n → P i) ⊎ ((i : ℕ) × (i < n) × (P i → ⊥)) → Dec (P n) → ((i : ℕ) → i < suc n → P i) ⊎ ((i : ℕ) × (i < suc n) × (P i → ⊥))
      step (inr x) last = inr (x.0, (let less = x.1 in omega arith), x.2)
      step (inl before) (no f) = inr (n, omega arith, f)
      step (inl before) (yes last) = inl (λ i h. at i h (ℕ_discrete i n))
        where
          at : (i : ℕ) → i < suc n → Dec (i ≡ n) → P i
          at i h (yes e) = rw e last
          at i h (no f) = before i (omega arith)

module _ {A : Type 0} (P : A → Type 0) (test : (a : A) → Dec (P a)) where
  pub each-or-not : (l : List A) → ((a : A) → a ∈ l → P a) ⊎ ((a : A) × (a ∈ l) × (P a → ⊥))
  each-or-not [] = inl (λ a m. absurd (Memᴰ.not-nil m))
  each-or-not (b ∷ l) = step (test b) (each-or-not l)
    where
      step : Dec (P b) → ((a : A) → a ∈ l → P a) ⊎ ((a : A) × (a ∈ l) × (P a → ⊥)) → ((a : A) → a ∈ (b ∷ l) → P a) ⊎ ((a : A) × (a ∈ (b ∷ l)) × (P a → ⊥))
      step (no f) rest = inr (b, Memᴰ.head refl, f)
      step (yes p) (inr x) = inr (x.0, Memᴰ.tail x.1, x.2)
      step (yes p) (inl rest) = inl each
        where
          each : (a : A) → a ∈ (b ∷ l) → P a
          each a (Memᴰ.head e) = rw e p
          each a (Memᴰ.tail m) = rest a m

module _ {A : Type 0} (P : A → Type 0) (test : (a : A) → Dec (P a)) where
  some_or_none : (l : List A) → ((a : A) × (a ∈ l) × P a) ⊎ ((a : A) → a ∈ l → P a → ⊥)
  some_or_none l = go (each-or-not (λ a. P a → ⊥) (λ a. Dec.not (test a)) l)
    where
      go : ((a : A) → a ∈ l → P a → ⊥) ⊎ ((a : A) × (a ∈ l) × ((P a → ⊥) → ⊥)) → ((a : A) × (a ∈ l) × P a) ⊎ ((a : A) → a ∈ l → P a → ⊥)
      go (inl f) = inr f
      go (inr x) = inl (x.0, x.1, positive (test x.0) x.2)

  pub some_in : (l : List A) → Dec ((a : A) × (a ∈ l) × P a)
  some_in l = decided (some_or_none l) (λ f x. f x.0 x.1 x.2)

pub is-in : {A : Type 0} → ((a b : A) → Dec (a ≡ b)) → (a : A) (l : List A) → Dec (a ∈ l)
is-in same a l = map_dec (λ x. Memᴰ.cast x.2 x.1) (λ m. (a, m, refl)) (some_in (λ b. a ≡ b) (same a) l)
