-- Tests joined by "and" and "or", also over lists, as facts.
use mathlib.Core.Path.{◌≡◌, refl, sym, subst}
use mathlib.Core.Logic.{◌⊎◌, inl, inr, ⊎_elim}
use mathlib.Core.Bool.{Bool, true, false, ◌&&◌, ◌||◌, not}
use mathlib.Core.List.Memᴰ
use mathlib.Core.List.{List, [], ◌∷◌}
use lib.Dec.{T}
use Rattle.spec.specs.Words.{◌∈◌}
use Prim.Native.Nat.{ℕ}
use native.Mathlib.Omega.{arith}

pub and_parts : (a b : Bool) → T (a && b) → T a × T b
and_parts true b h = (tt, h)
and_parts false b h = absurd h

pub and_both : (a b : Bool) → T a → T b → T (a && b)
and_both true b h k = k
and_both false b h k = h

pub or_cases : (a b : Bool) → T (a || b) → T a ⊎ T b
or_cases true b h = inl tt
or_cases false b h = inr h

pub or_left : (a b : Bool) → T a → T (a || b)
or_left true b h = tt
or_left false b h = absurd h

pub or_right : (a b : Bool) → T b → T (a || b)
or_right true b h = tt
or_right false b h = h

pub passes : {b : Bool} → b ≡ true → T b
passes e = subst T (sym e) tt

pub passed : (b : Bool) → T b → b ≡ true
passed true h = refl
passed false h = absurd h

pub fails : {b : Bool} → b ≡ false → T b → ⊥
fails e h = subst T e h

-- A test that is sound and complete decides.
pub decided : {P : Type 0} (b : Bool) → (T b → P) → (P → T b) → Dec P
decided true s c = yes (s tt)
decided false s c = no c

-- every element passes; some element passes
abbrev pub every : {A : Type 0} → (A → Bool) → List A → Bool
every p [] = true
every p (a ∷ l) = p a && every p l

abbrev pub any : {A : Type 0} → (A → Bool) → List A → Bool
any p [] = false
any p (a ∷ l) = p a || any p l

pub every-sound : {A : Type 0} (p : A → Bool) (l : List A) → T (every p l) → (a : A) → a ∈ l → T (p a)
every-sound p (b ∷ l) h a (Memᴰ.head e) = subst (λ c. T (p c)) (sym e) (and_parts (p b) (every p l) h).0
every-sound p (b ∷ l) h a (Memᴰ.tail i) = every-sound p l (and_parts (p b) (every p l) h).1 a i
every-sound {A = A} p [] h a x'' = elim x'' [ ]

pub every-complete : {A : Type 0} (p : A → Bool) (l : List A) → ((a : A) → a ∈ l → T (p a)) → T (every p l)
every-complete p [] h = tt
every-complete p (a ∷ l) h = and_both (p a) (every p l) (h a (Memᴰ.head refl)) (every-complete p l (λ b i. h b (Memᴰ.tail i)))

pub any-sound : {A : Type 0} (p : A → Bool) (l : List A) → T (any p l) → (a : A) × (a ∈ l) × T (p a)
any-sound p [] h = absurd h
any-sound p (a ∷ l) h = ⊎_elim (λ t. (a, Memᴰ.head refl, t)) (λ t. let w = any-sound p l t in (w.0, Memᴰ.tail w.1, w.2)) (or_cases (p a) (any p l) h)

pub any-complete : {A : Type 0} (p : A → Bool) (l : List A) (a : A) → a ∈ l → T (p a) → T (any p l)
any-complete p (b ∷ l) a (Memᴰ.head e) h = or_left (p b) (any p l) (subst (λ c. T (p c)) e h)
any-complete p (b ∷ l) a (Memᴰ.tail i) h = or_right (p b) (any p l) (any-complete p l a i h)
any-complete {A = A} p [] a x'' h = elim x'' [ ]

pub says_both : {t : Bool} → t ≡ true → t ≡ false → ⊥
says_both y n = fails n (passes y)

pub true-not-false : true ≡ false → ⊥
true-not-false e = let z : ◌≡◌ {A = ℕ} 0 1 = cc in omega arith

pub and-true : (a b : Bool) → (not a && b) ≡ true → (a ≡ false) × (b ≡ true)
and-true true b e = absurd (let z : ◌≡◌ {A = ℕ} 0 1 = cc in omega arith)
and-true false b e = (refl, e)
