-- Slots and other codes: what they become, what they stand for, and how they are noted.
use mathlib.Core.Path.{◌≡◌, sym, ◌∙◌}
use mathlib.Core.Bool.{false}
use mathlib.Core.Logic.{◌⊎◌, inl, inr, ⊎_elim}
use mathlib.Core.List.{List}
use Prim.Native.Nat.{ℕ, ◌/◌, ◌%◌, ◌<◌, ◌≤◌}
use native.Mathlib.Omega.{arith}
use native.Mathlib.Decide.{dec_lt, ℕ_discrete}
use lib.ListN.{get_or}
use lib.Dec.{eqb}
use borrow.Author.Tests.{lt-ltb, le-ltb, eq-eqb, ne_eqb}
use Rattle.bits.specs.Sets.{Has, with}
use Rattle.bits.proofs.Laws.{with-new, with-old, with_cases}
use Rattle.task.specs.Task.{value_of}
use Rattle.task.specs.Terms.{stood, noting}

pub value-slot : (v : ℕ → ℕ) (x : ℕ) → x < 64 → value_of v x ≡ v x
unfolding value_of
value-slot v x h = rw (lt-ltb x 64 h)

pub value-code : (v : ℕ → ℕ) (x : ℕ) → 64 ≤ x → value_of v x ≡ x
unfolding value_of
value-code v x h = rw (le-ltb x 64 h)

pub stood-slot : (g : List ℕ) (x : ℕ) → x < 64 → stood g x ≡ get_or g x 0
unfolding stood
stood-slot g x h = rw (lt-ltb x 64 h)

pub stood-code : (g : List ℕ) (x : ℕ) → 64 ≤ x → stood g x ≡ x
unfolding stood
stood-code g x h = rw (le-ltb x 64 h)

-- what stands for nothing is a slot
pub stood-none : (g : List ℕ) (x : ℕ) → stood g x ≡ 0 → x < 64
stood-none g x e = elim (dec_lt x 64) [ yes h ↦ h | no f ↦ omega (arith, stood-code g x (omega arith)) ]

-- values that keep a slot's binding give the term what it stands for
pub stood-value : (g : List ℕ) (v : ℕ → ℕ) (x : ℕ) → ((get_or g x 0 ≡ 0 → ⊥) → v x ≡ get_or g x 0) → (stood g x ≡ 0 → ⊥) → value_of v x ≡ stood g x
stood-value g v x f n = elim (dec_lt x 64) [
  | yes h ↦ value-slot v x h ∙ f (λ z. n (stood-slot g x h ∙ z)) ∙ sym (stood-slot g x h)
  | no h ↦ let i : 64 ≤ x = omega arith in value-code v x i ∙ sym (stood-code g x i)
]

pub noting-slot : (s x : ℕ) → x < 64 → noting s x ≡ with s x
unfolding noting
noting-slot s x h = rw (lt-ltb x 64 h)

pub noting-code : (s x : ℕ) → 64 ≤ x → noting s x ≡ s
unfolding noting
noting-code s x h = rw (le-ltb x 64 h)

pub noting-new : (s x : ℕ) → x < 64 → Has (noting s x) x
noting-new s x h = rw (noting-slot s x h) (with-new s x)

pub noting-old : (s x y : ℕ) → Has s y → Has (noting s x) y
noting-old s x y h = elim (dec_lt x 64) [
  | yes i ↦ rw (noting-slot s x i) (with-old s x y h)
  | no i ↦ rw (noting-code s x (omega arith)) h
]

pub noting-cases : (s x y : ℕ) → Has (noting s x) y → Has s y ⊎ ((y ≡ x) × (x < 64))
noting-cases s x y h = elim (dec_lt x 64) [
  | yes i ↦ ⊎_elim (λ o. inl o) (λ e. inr (e, i)) (with_cases s x y (rw (noting-slot s x i) at h))
  | no i ↦ inl (rw (noting-code s x (omega arith)) at h)
]

-- two codes are the same exactly if their tags and their numbers are
pub tag-unlike : (x y : ℕ) → (x / 4294967296 ≡ y / 4294967296 → ⊥) → false ≡ eqb x y
tag-unlike x y f = sym (ne_eqb x y (λ e. f (rw e)))

pub tag-alike : (x y : ℕ) → x / 4294967296 ≡ y / 4294967296 → eqb (x % 4294967296) (y % 4294967296) ≡ eqb x y
tag-alike x y e = elim (dec_eq) [
  | yes f ↦ eq-eqb _ _ f ∙ sym (eq-eqb x y (omega arith))
  | no f ↦ ne_eqb _ _ f ∙ sym (ne_eqb x y (λ g. f (rw g)))
]
  where
    dec_eq : Dec (x % 4294967296 ≡ y % 4294967296)
    dec_eq = ℕ_discrete (x % 4294967296) (y % 4294967296)
