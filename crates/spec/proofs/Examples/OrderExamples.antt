-- The orders turned, and lists that are not ascending: what is not before what, the first of a few, and places counted from 1.
use mathlib.Core.Path.{◌≡◌, refl, sym}
use mathlib.Core.Logic.{◌⊎◌, inl, inr, ⊎_elim}
use mathlib.Core.Option.{some, none}
use mathlib.Core.List.Memᴰ
use mathlib.Core.List.{[], ◌∷◌, map}
use Prim.Native.Nat.{ℕ, ◌<◌}
use native.Mathlib.Omega.{arith}
use lib.Dec.{lit<}
use Rattle.spec.specs.Words.{◌∈◌, con, var}
use Rattle.spec.specs.Summaries.{place, summary}
use Rattle.spec.specs.Order.{TermBefore, ListBefore, RowBefore, Ascending, ShorterFirst, First}
use Rattle.spec.specs.Answer.{AtPlaces, AtPairs}
use Rattle.spec.proofs.Examples.Written.{x0, x1, x2, rule, on}

-- no term before itself
same-variable : TermBefore (var 3) (var 3) → ⊥
same-variable h = omega arith

same-constant : TermBefore (con 3) (con 3) → ⊥
same-constant h = omega arith

-- A list that ends is before one that goes on; the first place that differs decides, whatever follows.
end-first : ListBefore ◌<◌ (1 ∷ []) (1 ∷ 0 ∷ [])
end-first = inr (refl, tt)

end_later : ListBefore ◌<◌ (1 ∷ 0 ∷ []) (1 ∷ []) → ⊥
end_later = ⊎_elim (λ h. omega arith) (λ w. w.1)

first-place : ListBefore ◌<◌ (1 ∷ 9 ∷ []) (2 ∷ 0 ∷ [])
first-place = inl (lit< tt)

later-place : ListBefore ◌<◌ (2 ∷ 0 ∷ []) (1 ∷ 9 ∷ []) → ⊥
later-place = ⊎_elim (λ h. omega arith) (λ w. omega (arith, w.0))

same-list : ListBefore ◌<◌ (1 ∷ 2 ∷ []) (1 ∷ 2 ∷ []) → ⊥
same-list = ⊎_elim (λ h. omega arith) (λ w. ⊎_elim (λ h. omega arith) (λ v. v.1) w.1)

-- The summary's number decides, though the terms are earlier.
later-summary : RowBefore (on 2 (x0 ∷ [])) (on 1 (con 9 ∷ [])) → ⊥
later-summary = ⊎_elim (λ h. omega arith) (λ w. omega (arith, w.0))

-- "distinct summary rows": a row twice is not ascending; nor is a list with its last two turned.
row-twice : Ascending (on 1 (x0 ∷ []) ∷ on 1 (x0 ∷ []) ∷ []) → ⊥
row-twice a = ⊎_elim (λ h. omega arith) (λ w. ⊎_elim (λ h. omega arith) (λ v. v.1) w.1) a.0

last-turned : Ascending (on 1 (x0 ∷ []) ∷ on 3 (x0 ∷ []) ∷ on 2 (x0 ∷ []) ∷ []) → ⊥
last-turned a = ⊎_elim (λ h. omega arith) (λ w. omega (arith, w.0)) a.1.0

-- A longer list is not first, though its rows are; of two as long the rows decide.
longer-later : ShorterFirst (on 1 (x0 ∷ []) ∷ on 1 (x1 ∷ []) ∷ []) (on 2 (x0 ∷ []) ∷ []) → ⊥
longer-later = ⊎_elim (λ h. omega arith) (λ w. omega (arith, w.0))

rows-decide : ShorterFirst (on 1 (x0 ∷ []) ∷ on 2 (x2 ∷ []) ∷ []) (on 1 (x1 ∷ []) ∷ on 2 (x0 ∷ []) ∷ [])
rows-decide = inr (refl, inl (inr (refl, inl (lit< tt))))

rows-turned : ShorterFirst (on 2 (x0 ∷ []) ∷ []) (on 1 (x0 ∷ []) ∷ []) → ⊥
rows-turned = ⊎_elim (λ h. omega arith) (λ w. ⊎_elim (⊎_elim (λ h. omega arith) (λ v. omega (arith, v.0))) (λ v. v.1) w.1)

-- the first of three numbers, and one that is not
abbrev OneOf : ℕ → Type 0
OneOf n = n ∈ (3 ∷ 1 ∷ 2 ∷ [])

first-of-three : First OneOf ◌<◌ 1
first-of-three = record { holds = Memᴰ.tail (Memᴰ.head refl); least = least }
  where
    least : (n : ℕ) → OneOf n → (1 ≡ n) ⊎ (1 < n)
    least n (Memᴰ.head e) = inr (omega arith)
    least n (Memᴰ.tail (Memᴰ.head e)) = inl (sym e)
    least n (Memᴰ.tail (Memᴰ.tail (Memᴰ.head e))) = inr (omega arith)
    least n (Memᴰ.tail (Memᴰ.tail (Memᴰ.tail x12))) = elim x12 [ ]

not-the-first : First OneOf ◌<◌ 2 → ⊥
not-the-first f = ⊎_elim (λ e. omega (arith, e)) (λ h. omega (arith, h)) (f.least 1 (Memᴰ.tail (Memᴰ.head refl)))

none-is-first : First OneOf ◌<◌ 0 → ⊥
none-is-first f = go f.holds
  where
    go : OneOf 0 → ⊥
    go (Memᴰ.head e) = omega (arith, e)
    go (Memᴰ.tail (Memᴰ.head e)) = omega (arith, e)
    go (Memᴰ.tail (Memᴰ.tail (Memᴰ.head e))) = omega (arith, e)
    go (Memᴰ.tail (Memᴰ.tail (Memᴰ.tail x12))) = elim x12 [ ]

-- "All count from 1."
from_one : map (place {A = ℕ} (5 ∷ 6 ∷ [])) (0 ∷ 1 ∷ 2 ∷ 3 ∷ []) ≡ none ∷ some 5 ∷ some 6 ∷ none ∷ []
from_one = refl

-- A summary that is left out is none; so is one past the last.
numbered-from-one : map (summary (some (rule [] (on 0 [] ∷ [])) ∷ none ∷ some (rule [] (on 1 [] ∷ [])) ∷ [])) (0 ∷ 1 ∷ 2 ∷ 3 ∷ 4 ∷ []) ≡ none ∷ some (rule [] (on 0 [] ∷ [])) ∷ none ∷ some (rule [] (on 1 [] ∷ [])) ∷ none ∷ []
numbered-from-one = refl

-- the places named by bytes: in the bytes' order, a place as often as it is named
at_places : AtPlaces {A = ℕ} (7 ∷ 8 ∷ []) (2 ∷ 1 ∷ 2 ∷ []) (8 ∷ 7 ∷ 8 ∷ [])
at_places = (refl, (refl, (refl, tt)))

-- first which list, then which place in it
at-pairs : AtPairs {A = ℕ} ((7 ∷ []) ∷ (8 ∷ 9 ∷ []) ∷ []) (2 ∷ 1 ∷ 1 ∷ 1 ∷ 2 ∷ 2 ∷ []) (8 ∷ 7 ∷ 9 ∷ [])
at-pairs = ((8 ∷ 9 ∷ [], refl, refl), ((7 ∷ [], refl, refl), ((8 ∷ 9 ∷ [], refl, refl), tt)))
