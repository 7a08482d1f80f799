-- What a reader finds in the areas: beside each subgoal its use and its place there; between two beginnings one row's use.
use mathlib.Core.Path.{◌≡◌, refl, sym, ap, ap₂, ◌∙◌}
use mathlib.Core.List.{List, [], ◌∷◌, ◌++◌, append_assoc}
use Prim.Native.Nat.{ℕ, zero, suc, ◌+◌, ◌*◌, ◌-◌, ◌<◌, ◌≤◌}
use native.Mathlib.Omega.{arith}
use native.Mathlib.Decide.{dec_lt}
use lib.ListN.{length, get_or, take, drop, length-append, get_or-append}
use lib.Seq.{get_or-append-add, take_at, drop-append-add}
use Rattle.spec.specs.Words.{Term, Subgoal}
use Rattle.spec.specs.Summaries.{Summaries, Own, in_place, uses, joined}
use Rattle.spec.specs.Given.{at_front}
use Rattle.spec.proofs.Lists.Counted.{counted}
use Rattle.choice_theory.specs.Placed.{owners}
use Rattle.choice_theory.specs.Numbered.{row_at}
use Rattle.codes.specs.Code.{codes_of}
use Rattle.codes.proofs.Padded.{codes-length, codes-append}
use Rattle.search_meaning.specs.Uses.{use_at, within_at}
use Rattle.search_meaning.proofs.Pairs.{use-here, use-later}
use Rattle.search_meaning.proofs.Owners.{owners-long, owners-at, uses-long}
use Rattle.book_codes.specs.Insides.{insides, starts}
use Rattle.book_codes.proofs.Stored.{counted-long, counted-at}
use Rattle.book_codes.proofs.Beginnings.{starts-long}

module _ {A : Type 0} where
  pub insides-long : (ls : List (List A)) → length (insides ls) ≡ length (joined ls)
  insides-long [] = refl
  insides-long (m ∷ ls) = length-append (counted 0 (length m)) (insides ls) ∙ omega (arith, counted-long 0 (length m), insides-long ls, length-append m (joined ls))

  -- the place is that within its list
  pub insides-at : (ls : List (List A)) (k : ℕ) → k < length (joined ls) → get_or (insides ls) k 0 ≡ within_at ls k
  insides-at [] k h = absurd (omega arith)
  insides-at (m ∷ ls) k h = go (dec_lt k (length m)) (insides-at ls (k - length m))
    where
      size : length (counted 0 (length m)) ≡ length m
      size = counted-long 0 (length m)

      go : Dec (k < length m) → (k - length m < length (joined ls) → get_or (insides ls) (k - length m) 0 ≡ within_at ls (k - length m)) → get_or (insides (m ∷ ls)) k 0 ≡ within_at (m ∷ ls) k
      go (yes l) rest = get_or-append (counted 0 (length m)) (insides ls) 0 k (omega (arith, size)) ∙ omega (arith, counted-at 0 (length m) k l, (use-here m ls k l).1)
      go (no l) rest =
          let n : k ≡ length m + (k - length m) = omega arith in
          ap (λ i. get_or (insides (m ∷ ls)) i 0) (n ∙ ap (λ i. i + (k - length m)) (sym size)) ∙ get_or-append-add (counted 0 (length m)) (insides ls) (k - length m) 0
          ∙ rest (omega (arith, length-append m (joined ls))) ∙ sym (use-later m ls (k - length m)).1 ∙ ap (within_at (m ∷ ls)) (sym n)

-- what stands at the front of an area
front_at : (front area : List ℕ) (k : ℕ) → k < length front → get_or (at_front front area) k 0 ≡ get_or front k 0
front_at front area k h = get_or-append front (drop (length front) area) 0 k h

module _ {A : Type 0} (ls : List (List A)) (before after : List ℕ) (k : ℕ) (h : k < length (joined ls)) where
  pub own_read : after ≡ at_front (owners 0 ls) before → get_or after k 0 ≡ use_at ls k
  own_read e = ap (λ l. get_or l k 0) e ∙ front_at (owners 0 ls) before k (omega (arith, owners-long 0 ls)) ∙ omega (arith, owners-at 0 ls k h)

  pub inner-read : after ≡ at_front (insides ls) before → get_or after k 0 ≡ within_at ls k
  inner-read e = ap (λ l. get_or l k 0) e ∙ front_at (insides ls) before k (omega (arith, insides-long ls)) ∙ insides-at ls k h

-- the first list begins where all do
pub first-start : {A : Type 0} (at : ℕ) (ls : List (List A)) → get_or (starts at ls) 0 0 ≡ at
first-start at [] = refl
first-start at (m ∷ ls) = refl

-- The r-th of lists whose codes stand one after the other: what lies between its beginning and the next. The first begins at `at`.
record Between {A : Type 0} (code : A → ℕ) (at : ℕ) (ls : List (List (Subgoal A))) (rest : List ℕ) (r here next : ℕ) : Type 0 where
  low : at ≤ here
  goes : next ≡ here + length (get_or ls r [])
  within : next ≤ at + length (joined ls)
  codes : take (9 * length (get_or ls r [])) (drop (9 * (here - at)) (codes_of code (joined ls) ++ rest)) ≡ codes_of code (get_or ls r [])

module _ {A : Type 0} (code : A → ℕ) where
  -- the first list's codes, and what is behind them
  apart : (m : List (Subgoal A)) (ls : List (List (Subgoal A))) (rest : List ℕ) → codes_of code (joined (m ∷ ls)) ++ rest ≡ codes_of code m ++ (codes_of code (joined ls) ++ rest)
  apart m ls rest = ap (λ w. w ++ rest) (codes-append code m (joined ls)) ∙ append_assoc (codes_of code m) (codes_of code (joined ls)) rest

  between : (at : ℕ) (ls : List (List (Subgoal A))) (rest : List ℕ) (r : ℕ) → r < length ls → Between code at ls rest r (get_or (starts at ls) r 0) (get_or (starts at ls) (suc r) 0)
  between at [] rest r h = absurd (omega arith)
  between at (m ∷ ls) rest zero h = record {
    low = omega arith;
    goes = first-start (at + length m) ls;
    within = omega (arith, first-start (at + length m) ls, length-append m (joined ls));
    codes =
        let e : 9 * (at - at) ≡ 0 = omega arith in
        ap₂ (λ k w. take (9 * length m) (drop k w)) e (apart m ls rest) ∙ take_at (codes_of code m) (codes_of code (joined ls) ++ rest) (9 * length m) (codes-length code m);
  }
  between at (m ∷ ls) rest (suc r) h = go (between (at + length m) ls rest r (omega arith))
    where
      go : Between code (at + length m) ls rest r (get_or (starts (at + length m) ls) r 0) (get_or (starts (at + length m) ls) (suc r) 0)
          → Between code at (m ∷ ls) rest (suc r) (get_or (starts (at + length m) ls) r 0) (get_or (starts (at + length m) ls) (suc r) 0)
      go b =
          let low = b.low in
          let n = codes-length code m in
          record {
            low = omega arith;
            goes = b.goes;
            within = let w = b.within in omega (arith, length-append m (joined ls));
            codes =
                let k = length (get_or ls r []) in
                let here = get_or (starts (at + length m) ls) r 0 in
                let e : 9 * (here - at) ≡ length (codes_of code m) + 9 * (here - (at + length m)) = omega arith in
                ap₂ (λ i w. take (9 * k) (drop i w)) e (apart m ls rest) ∙ ap (take (9 * k)) (drop-append-add (codes_of code m) (codes_of code (joined ls) ++ rest) (9 * (here - (at + length m)))) ∙ b.codes;
          }

uses-at : (s : Summaries) (u : ℕ) (l : List (Subgoal (Term ℕ))) (r : ℕ) → r < length l → get_or (uses s u l) r [] ≡ in_place s (u + r) (row_at l r)
uses-at s u [] r h = absurd (omega arith)
uses-at s u (g ∷ l) zero h = let e : u ≡ u + 0 = omega arith in ap (λ v. in_place s v g) e
uses-at s u (g ∷ l) (suc r) h = let e : suc u + r ≡ u + suc r = omega arith in uses-at s (suc u) l r (omega arith) ∙ ap (λ v. in_place s v (row_at l r)) e

-- The part of the codes from 9 × here to 9 × next is those of the row's use.
pub record UsePart (s : Summaries) (l : List (Subgoal (Term ℕ))) (code : Term (Own ℕ) → ℕ) (area : List ℕ) (r here next : ℕ) : Type 0 where
  pub rises : next ≡ here + length (in_place s r (row_at l r))
  pub within : next ≤ length (joined (uses s 0 l))
  pub codes : take (9 * next - 9 * here) (drop (9 * here) area) ≡ codes_of code (in_place s r (row_at l r))

pub use-part : (s : Summaries) (l : List (Subgoal (Term ℕ))) (code : Term (Own ℕ) → ℕ) (before area starts_before places : List ℕ)
    → area ≡ at_front (codes_of code (joined (uses s 0 l))) before → places ≡ at_front (starts 0 (uses s 0 l)) starts_before
    → (r : ℕ) → r < length l → UsePart s l code area r (get_or places r 0) (get_or places (r + 1) 0)
use-part s l code before area starts_before places e f r h = rw (here, next) record {
  rises = b.goes ∙ ap (λ m. get_or (starts 0 ls) r 0 + length m) same;
  within = let w = b.within in omega arith;
  codes = ap₂ (λ k i. take k (drop (9 * i) area)) many zeroed ∙ ap (λ w. take (9 * length (get_or ls r [])) (drop (9 * (get_or (starts 0 ls) r 0 - 0)) w)) e ∙ b.codes ∙ ap (codes_of code) same;
}
  where
    ls : List (List (Subgoal (Term (Own ℕ))))
    ls = uses s 0 l

    less : r < length ls
    less = omega (arith, uses-long s 0 l)

    b : Between code 0 ls (drop (length (codes_of code (joined ls))) before) r (get_or (starts 0 ls) r 0) (get_or (starts 0 ls) (suc r) 0)
    b = between code 0 ls (drop (length (codes_of code (joined ls))) before) r less

    read : (k : ℕ) → k ≤ length ls → get_or places k 0 ≡ get_or (starts 0 ls) k 0
    read k o = ap (λ l. get_or l k 0) f ∙ front_at (starts 0 ls) starts_before k (omega (arith, starts-long 0 ls))

    here : get_or places r 0 ≡ get_or (starts 0 ls) r 0
    here = read r (omega (arith, less))

    next : get_or places (r + 1) 0 ≡ get_or (starts 0 ls) (suc r) 0
    next = let one : r + 1 ≡ suc r = omega arith in ap (λ k. get_or places k 0) one ∙ read (suc r) less

    same : get_or ls r [] ≡ in_place s r (row_at l r)
    same = let z : 0 + r ≡ r = omega arith in uses-at s 0 l r h ∙ ap (λ v. in_place s v (row_at l r)) z

    many : 9 * get_or (starts 0 ls) (suc r) 0 - 9 * get_or (starts 0 ls) r 0 ≡ 9 * length (get_or ls r [])
    many = let g = b.goes in omega arith

    zeroed : get_or (starts 0 ls) r 0 ≡ get_or (starts 0 ls) r 0 - 0
    zeroed = omega arith
