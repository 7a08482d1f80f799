-- Lists gathered from the members of a list, or those that pass a test, and what their members are.
use mathlib.Core.Path.{◌≡◌, refl, sym, ap, ap₂, ◌∙◌, subst}
use mathlib.Core.Logic.{⊎_elim}
use mathlib.Core.Bool.{Bool, true, false, cond}
use mathlib.Core.Option.{Option, some, none}
use mathlib.Core.List.Memᴰ
use mathlib.Core.List.{List, [], ◌∷◌, ◌++◌, map, head-eq_of_cons-eq, tail-eq_of_cons-eq}
use lib.Dec.{T}
use Rattle.spec.specs.Words.{◌∈◌}
use Rattle.spec.proofs.Lists.Tests.{passes, fails}

abbrev pub gather : {A B : Type 0} → (A → List B) → List A → List B
gather f [] = []
gather f (a ∷ l) = f a ++ gather f l

pub gather-in : {A B : Type 0} (f : A → List B) {a : A} {b : B} (l : List A) → a ∈ l → b ∈ f a → b ∈ gather f l
gather-in f {b = b} (c ∷ l) (Memᴰ.head e) i = Memᴰ.append_left (gather f l) (subst (λ z. b ∈ f z) e i)
gather-in f (c ∷ l) (Memᴰ.tail m) i = Memᴰ.append_right (f c) (gather-in f l m i)
gather-in {A = A} {B = B} f {a = a} {b = b} [] x'' i = elim x'' [ ]

pub gather-out : {A B : Type 0} (f : A → List B) {b : B} (l : List A) → b ∈ gather f l → (a : A) × (a ∈ l) × (b ∈ f a)
gather-out f [] m = absurd (Memᴰ.not-nil m)
gather-out f (c ∷ l) m = ⊎_elim (λ i. (c, Memᴰ.head refl, i)) (λ i. let r = gather-out f l i in (r.0, Memᴰ.tail r.1, r.2)) (Memᴰ.append_cases (f c) m)

-- Nothing comes of none.
abbrev pub from : {A B : Type 0} → (A → List B) → Option A → List B
from f none = []
from f (some a) = f a

pub from_out : {A B : Type 0} (f : A → List B) {b : B} (o : Option A) → b ∈ from f o → (a : A) × (o ≡ some a) × (b ∈ f a)
from_out f none m = absurd (Memᴰ.not-nil m)
from_out f (some a) m = (a, refl, m)

-- The elements that pass a test.
abbrev pub passing : {A : Type 0} → (A → Bool) → List A → List A
passing p [] = []
passing p (a ∷ l) = cond (p a) (a ∷ passing p l) (passing p l)

pub passing-out : {A : Type 0} (p : A → Bool) {a : A} (l : List A) → a ∈ passing p l → (a ∈ l) × T (p a)
passing-out p [] m = absurd (Memᴰ.not-nil m)
passing-out p {a} (b ∷ l) m = go (passing-out p l) (p b) refl m
  where
    go : (a ∈ passing p l → (a ∈ l) × T (p a)) → (t : Bool) → p b ≡ t → a ∈ cond t (b ∷ passing p l) (passing p l) → (a ∈ (b ∷ l)) × T (p a)
    go rest true e (Memᴰ.head q) = (Memᴰ.head q, passes (ap p q ∙ e))
    go rest true e (Memᴰ.tail i) = (Memᴰ.tail (rest i).0, (rest i).1)
    go rest false e i = (Memᴰ.tail (rest i).0, (rest i).1)

pub passing-in : {A : Type 0} (p : A → Bool) {a : A} (l : List A) → a ∈ l → T (p a) → a ∈ passing p l
passing-in p {a} (b ∷ l) m h = go (λ i. passing-in p l i h) (p b) refl m
  where
    go : (a ∈ l → a ∈ passing p l) → (t : Bool) → p b ≡ t → a ∈ (b ∷ l) → a ∈ cond t (b ∷ passing p l) (passing p l)
    go rest true e (Memᴰ.head q) = Memᴰ.head q
    go rest true e (Memᴰ.tail i) = Memᴰ.tail (rest i)
    go rest false e (Memᴰ.head q) = absurd (fails e (subst (λ z. T (p z)) q h))
    go rest false e (Memᴰ.tail i) = rest i
passing-in {A = A} p {a = a} [] m h = elim m [ ]

-- The first element.
abbrev pub first : {A : Type 0} → List A → Option A
first [] = none
first (a ∷ l) = some a

-- Two functions that agree on the members, and lists they make.
pub map_same : {A B : Type 0} (f g : A → B) (l : List A) → ((a : A) → a ∈ l → f a ≡ g a) → map f l ≡ map g l
map_same f g [] h = refl
map_same f g (a ∷ l) h = ap₂ ◌∷◌ (h a (Memᴰ.head refl)) (map_same f g l (λ b i. h b (Memᴰ.tail i)))

pub same_map : {A B : Type 0} (f g : A → B) (l : List A) → map f l ≡ map g l → (a : A) → a ∈ l → f a ≡ g a
same_map f g (b ∷ l) e a (Memᴰ.head p) = ap f p ∙ head-eq_of_cons-eq e ∙ ap g (sym p)
same_map f g (b ∷ l) e a (Memᴰ.tail i) = same_map f g l (tail-eq_of_cons-eq e) a i
same_map {A = A} {B = B} f g [] e a x'' = elim x'' [ ]

pub map-itself : {A : Type 0} (l : List A) → map (λ a. a) l ≡ l
map-itself [] = refl
map-itself (a ∷ l) = ap (◌∷◌ a) (map-itself l)

pub map-in : {A B : Type 0} (f : A → B) (l : List A) (a : A) → a ∈ l → f a ∈ map f l
map-in f (b ∷ l) a (Memᴰ.head e) = Memᴰ.head (ap f e)
map-in f (b ∷ l) a (Memᴰ.tail i) = Memᴰ.tail (map-in f l a i)
map-in {A = A} {B = B} f [] a x' = elim x' [ ]

pub map-append : {A B : Type 0} (f : A → B) (l m : List A) → map f (l ++ m) ≡ map f l ++ map f m
map-append f [] m = refl
map-append f (a ∷ l) m = ap (λ r. f a ∷ r) (map-append f l m)

pub map-map : {A B C : Type 0} (f : A → B) (g : B → C) (l : List A) → map g (map f l) ≡ map (λ a. g (f a)) l
map-map f g [] = refl
map-map f g (a ∷ l) = ap (λ r. g (f a) ∷ r) (map-map f g l)
