-- Strict orders that compare any two, with tests: of numbers, of lists by their elements, by a number and then by a second thing.
use mathlib.Core.Path.{◌≡◌, refl, sym, ap₂, ◌∙◌}
use mathlib.Core.Logic.{◌⊎◌, inl, inr, ⊎_elim}
use mathlib.Core.Bool.{Bool, true, false, ◌&&◌, ◌||◌}
use mathlib.Core.List.{List, [], ◌∷◌}
use Prim.Native.Nat.{ℕ, ◌<◌}
use native.Mathlib.Omega.{arith}
use native.Mathlib.Decide.{dec_lt, ℕ_discrete}
use lib.Dec.{T, eqb, ltb, ltb→lt, lt→ltb}
use Rattle.spec.specs.Order.{ListBefore, First}
use Rattle.spec.proofs.Lists.Tests.{and_parts, and_both, or_cases, or_left, or_right, decided}
use Rattle.spec.proofs.Decided.Equal.{Eq, eq_test, eq_number}

-- A strict order that compares any two, with a test.
pub record Strict {A : Type 0} (Before : A → A → Type 0) : Type 0 where
  pub never : (a : A) → Before a a → ⊥
  pub trans : (a b c : A) → Before a b → Before b c → Before a c
  pub compare : (a b : A) → Before a b ⊎ ((a ≡ b) ⊎ Before b a)
  pub test : A → A → Bool
  pub sound : (a b : A) → T (test a b) → Before a b
  pub complete : (a b : A) → Before a b → T (test a b)

module _ {A : Type 0} {Before : A → A → Type 0} (o : Strict Before) where
  pub one_way : (a b : A) → Before a b → Before b a → ⊥
  one_way a b h k = o.never a (o.trans a b a h k)

  pub dec_before : (a b : A) → Dec (Before a b)
  dec_before a b = decided (o.test a b) (o.sound a b) (o.complete a b)

  pub first-unique : {Ok : A → Type 0} (a b : A) → First Ok Before a → First Ok Before b → a ≡ b
  first-unique a b f g = ⊎_elim (λ e. e) (λ h. ⊎_elim (λ e. sym e) (λ k. absurd (one_way a b h k)) (g.least a f.holds)) (f.least b g.holds)

pub numbers-compare : (a b : ℕ) → (a < b) ⊎ ((a ≡ b) ⊎ (b < a))
numbers-compare a b = go (dec_lt a b) (ℕ_discrete a b)
  where
    go : Dec (a < b) → Dec (a ≡ b) → (a < b) ⊎ ((a ≡ b) ⊎ (b < a))
    go (yes h) d = inl h
    go (no h) (yes e) = inr (inl e)
    go (no h) (no e) = inr (inr (omega arith))

abbrev pub number_order : Strict ◌<◌
number_order = record { never = λ a h. omega arith; trans = λ a b c h k. omega arith; compare = numbers-compare; test = ltb; sound = ltb→lt; complete = lt→ltb }

-- Lists, by an order of their elements.
module _ {A : Type 0} (e : Eq A) {Before : A → A → Type 0} (o : Strict Before) where
  abbrev pub list_before : List A → List A → Bool
  list_before [] [] = false
  list_before [] (b ∷ m) = true
  list_before (a ∷ l) [] = false
  list_before (a ∷ l) (b ∷ m) = o.test a b || (e.test a b && list_before l m)

  pub list-never : (l : List A) → ListBefore Before l l → ⊥
  list-never [] h = h
  list-never (a ∷ l) (inl h) = o.never a h
  list-never (a ∷ l) (inr h) = list-never l h.1

  pub list-trans : (l m n : List A) → ListBefore Before l m → ListBefore Before m n → ListBefore Before l n
  list-trans [] [] n h k = absurd h
  list-trans [] (b ∷ m) [] h k = k
  list-trans [] (b ∷ m) (c ∷ n) h k = tt
  list-trans (a ∷ l) [] n h k = absurd h
  list-trans (a ∷ l) (b ∷ m) [] h k = absurd k
  list-trans (a ∷ l) (b ∷ m) (c ∷ n) (inl h) (inl k) = inl (o.trans a b c h k)
  list-trans (a ∷ l) (b ∷ m) (c ∷ n) (inl h) (inr k) = inl (rw k.0 at h)
  list-trans (a ∷ l) (b ∷ m) (c ∷ n) (inr h) (inl k) = inl (rw h.0 k)
  list-trans (a ∷ l) (b ∷ m) (c ∷ n) (inr h) (inr k) = inr (h.0 ∙ k.0, list-trans l m n h.1 k.1)

  pub list-compare : (l m : List A) → ListBefore Before l m ⊎ ((l ≡ m) ⊎ ListBefore Before m l)
  list-compare [] [] = inr (inl refl)
  list-compare [] (b ∷ m) = inl tt
  list-compare (a ∷ l) [] = inr (inr tt)
  list-compare (a ∷ l) (b ∷ m) = go (o.compare a b) (list-compare l m)
    where
      go : Before a b ⊎ ((a ≡ b) ⊎ Before b a) → ListBefore Before l m ⊎ ((l ≡ m) ⊎ ListBefore Before m l)
          → ListBefore Before (a ∷ l) (b ∷ m) ⊎ (◌≡◌ {A = List A} (a ∷ l) (b ∷ m) ⊎ ListBefore Before (b ∷ m) (a ∷ l))
      go (inl h) rest = inl (inl h)
      go (inr (inr h)) rest = inr (inr (inl h))
      go (inr (inl p)) (inl h) = inl (inr (p, h))
      go (inr (inl p)) (inr (inl q)) = inr (inl (ap₂ ◌∷◌ p q))
      go (inr (inl p)) (inr (inr h)) = inr (inr (inr (sym p, h)))

  pub list-sound : (l m : List A) → T (list_before l m) → ListBefore Before l m
  list-sound [] [] h = h
  list-sound [] (b ∷ m) h = tt
  list-sound (a ∷ l) [] h = h
  list-sound (a ∷ l) (b ∷ m) h = ⊎_elim
      (λ t. inl (o.sound a b t))
      (λ t. let p = and_parts (e.test a b) (list_before l m) t in inr (e.sound a b p.0, list-sound l m p.1))
      (or_cases (o.test a b) (e.test a b && list_before l m) h)

  pub list-complete : (l m : List A) → ListBefore Before l m → T (list_before l m)
  list-complete [] [] h = h
  list-complete [] (b ∷ m) h = tt
  list-complete (a ∷ l) [] h = h
  list-complete (a ∷ l) (b ∷ m) (inl h) = or_left (o.test a b) (e.test a b && list_before l m) (o.complete a b h)
  list-complete (a ∷ l) (b ∷ m) (inr h) =
      or_right (o.test a b) (e.test a b && list_before l m) (and_both (e.test a b) (list_before l m) (eq_test e a b h.0) (list-complete l m h.1))

  abbrev pub list_order : Strict (ListBefore Before)
  list_order = record { never = list-never; trans = list-trans; compare = list-compare; test = list_before; sound = list-sound; complete = list-complete }

-- By a number first, where that is the same by a second thing; the two together tell all.
module _ {A B : Type 0} (number : A → ℕ) (second : A → B) {Before : B → B → Type 0} (o : Strict Before) (all : (a b : A) → number a ≡ number b → second a ≡ second b → a ≡ b) where
  abbrev NumberFirst : A → A → Type 0
  NumberFirst a b = (number a < number b) ⊎ ((number a ≡ number b) × Before (second a) (second b))

  abbrev pub number_first : A → A → Bool
  number_first a b = ltb (number a) (number b) || (eqb (number a) (number b) && o.test (second a) (second b))

  abbrev pub number_first_order : Strict NumberFirst
  number_first_order = record { never = never; trans = trans; compare = λ a b. compare a b (numbers-compare (number a) (number b)) (o.compare (second a) (second b)); test = number_first; sound = sound; complete = complete }
    where
      never : (a : A) → NumberFirst a a → ⊥
      never a (inl h) = omega arith
      never a (inr h) = o.never (second a) h.1

      trans : (a b c : A) → NumberFirst a b → NumberFirst b c → NumberFirst a c
      trans a b c (inl h) (inl k) = inl (omega arith)
      trans a b c (inl h) (inr k) = inl (omega arith)
      trans a b c (inr h) (inl k) = inl (omega arith)
      trans a b c (inr h) (inr k) = inr (h.0 ∙ k.0, o.trans (second a) (second b) (second c) h.1 k.1)

      compare : (a b : A) → (number a < number b) ⊎ ((number a ≡ number b) ⊎ (number b < number a)) → Before (second a) (second b) ⊎ ((second a ≡ second b) ⊎ Before (second b) (second a))
          → NumberFirst a b ⊎ ((a ≡ b) ⊎ NumberFirst b a)
      compare a b (inl h) r = inl (inl h)
      compare a b (inr (inr h)) r = inr (inr (inl h))
      compare a b (inr (inl e)) (inl h) = inl (inr (e, h))
      compare a b (inr (inl e)) (inr (inl p)) = inr (inl (all a b e p))
      compare a b (inr (inl e)) (inr (inr h)) = inr (inr (inr (sym e, h)))

      sound : (a b : A) → T (number_first a b) → NumberFirst a b
      sound a b h = ⊎_elim
          (λ t. inl (ltb→lt (number a) (number b) t))
          (λ t. let p = and_parts (eqb (number a) (number b)) (o.test (second a) (second b)) t in inr (eq_number.sound (number a) (number b) p.0, o.sound (second a) (second b) p.1))
          (or_cases (ltb (number a) (number b)) (eqb (number a) (number b) && o.test (second a) (second b)) h)

      complete : (a b : A) → NumberFirst a b → T (number_first a b)
      complete a b (inl h) = or_left (ltb (number a) (number b)) (eqb (number a) (number b) && o.test (second a) (second b)) (lt→ltb (number a) (number b) h)
      complete a b (inr h) =
          or_right (ltb (number a) (number b)) (eqb (number a) (number b) && o.test (second a) (second b))
          (and_both (eqb (number a) (number b)) (o.test (second a) (second b)) (eq_test eq_number (number a) (number b) h.0) (o.complete (second a) (second b) h.1))
