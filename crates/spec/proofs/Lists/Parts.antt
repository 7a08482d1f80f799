-- Parts of lists: what is left from a place on.
use mathlib.Core.Path.{◌≡◌, ap, ◌∙◌, refl}
use mathlib.Core.List.{List, [], ◌∷◌, ◌++◌}
use Prim.Native.Nat.{ℕ, ◌-◌, ◌≤◌, ◌+◌, ◌<◌}
use native.Mathlib.Omega.{arith}
use lib.ListN.{length, take, drop, length-drop, get_or, set}
use lib.Seq.{take_all, take-suc, take-suc-set}
use native.Mathlib.Numerals.{add-one}

-- a part up to the end is all from its start on
pub to_end : (l : List ℕ) (k : ℕ) → take (length l - k) (drop k l) ≡ drop k l
to_end l k = take_all (length l - k) (drop k l) (omega (arith, length-drop k l))

pub part-long : (a : ℕ) (l : List ℕ) → length (take (length l - a) (drop a l)) ≡ length l - a
part-long a l = ap length (to_end l a) ∙ length-drop a l

-- the place behind what is left
pub place-left : (s : List ℕ) (p : ℕ) → p ≤ length s → length s - length (drop p s) ≡ p
place-left s p h = omega (arith, length-drop p s)

pub two_bytes : (s : List ℕ) → 2 ≤ length s → s ≡ get_or s 0 0 ∷ get_or s 1 0 ∷ drop 2 s
two_bytes [] h = absurd (omega arith)
two_bytes (a ∷ []) h = absurd (omega arith)
two_bytes (a ∷ b ∷ s) h = refl

-- a front with one more
pub front-last : (l : List ℕ) (j : ℕ) → j < length l → take (j + 1) l ≡ take j l ++ (get_or l j 0 ∷ [])
front-last l j h = rw (add-one j) (take-suc l j 0 h)

pub front-put : (l : List ℕ) (j k : ℕ) → j < length l → take (j + 1) (set l j k) ≡ take j l ++ (k ∷ [])
front-put l j k h = rw (add-one j) (take-suc-set l j k h)
