-- Numbers beside the subgoals of a use: what a part of an area becomes, and the area with that part in its place.
use mathlib.Core.Path.{◌≡◌, refl, sym, ap, ap₂, ◌∙◌}
use mathlib.Core.List.{List, ◌∷◌, ◌++◌, append_assoc}
use Prim.Native.Nat.{ℕ, zero, suc, ◌+◌, ◌-◌, ◌<◌, ◌≤◌}
use native.Mathlib.Omega.{arith}
use lib.ListN.{length, get_or, take, drop, set, replicate, length-take, length-drop}
use lib.Seq.{sets, sets-eq, drop-drop, ext_get_or}
use borrow.Rule.Slice.PartMut.{put_mid}
use Rattle.spec.proofs.Lists.Counted.{counted}
use Rattle.search_meaning.specs.Uses.{end_of}

-- a part replaced is so many stores
pub part-put : (area codes : List ℕ) (at k : ℕ) → at + k ≤ length area → length codes ≡ k → put_mid at k area codes ≡ sets area at codes
part-put area codes at k h e =
    ap (λ l. take at area ++ (codes ++ l)) (drop-drop k at area ∙ ap (λ m. drop (at + m) area) (sym e))
    ∙ sym (append_assoc (take at area) codes (drop (at + length codes) area)) ∙ sym (sets-eq codes area at (omega arith))

-- .. where it is written by its length
pub part-stored : (f : ℕ → List ℕ) → ((k : ℕ) → length (f k) ≡ k) → (area after : List ℕ) (at k : ℕ) → at + k ≤ length area
    → after ≡ f (length (take (at + k - at) (drop at area))) → put_mid at (at + k - at) area after ≡ sets area at (f k)
part-stored f each area after at k h e =
    let n : at + k - at ≡ k = omega arith in
    let long : length (take (at + k - at) (drop at area)) ≡ k = simp (n, length-take, length-drop) (omega arith) in
    ap₂ (λ l m. put_mid at m area l) (e ∙ ap f long) n ∙ part-put area (f k) at k h (each k)

-- numbers that count up
pub counted-long : (n m : ℕ) → length (counted n m) ≡ m
counted-long n zero = refl
counted-long n (suc m) = ap suc (counted-long (suc n) m)

pub counted-at : (n m k : ℕ) → k < m → get_or (counted n m) k 0 ≡ n + k
counted-at n zero k h = absurd (omega arith)
counted-at n (suc m) zero h = omega arith
counted-at n (suc m) (suc k) h = omega (arith, counted-at (suc n) m k (omega arith))

pub counted-up : (l : List ℕ) → ((k : ℕ) → k < length l → get_or l k 0 ≡ k) → l ≡ counted 0 (length l)
counted-up l h = ext_get_or 0 l (counted 0 (length l)) (sym (counted-long 0 (length l))) (λ k i. h k i ∙ omega (arith, counted-at 0 (length l) k i))

-- the last marked
end_marked : (n : ℕ) → set (replicate (suc n) 0) n 1 ≡ end_of (suc n)
end_marked zero = refl
end_marked (suc n) = ap (◌∷◌ 0) (end_marked n)

pub marked-end : (n : ℕ) → 1 ≤ n → set (replicate n 0) (n - 1) 1 ≡ end_of n
marked-end zero h = absurd (omega arith)
marked-end (suc n) h = let m : suc n - 1 ≡ n = omega arith in ap (λ k. set (replicate (suc n) 0) k 1) m ∙ end_marked n
