-- Codes filled up to eight; how many codes there are.
use mathlib.Core.Path.{◌≡◌, refl, ap, ◌∙◌, sym}
use mathlib.Core.List.{List, [], ◌∷◌, map, ◌++◌, append_assoc, append-nil}
use Prim.Native.Nat.{ℕ, zero, suc, ◌*◌, ◌<◌, ◌≤◌}
use native.Mathlib.Omega.{arith}
use lib.ListN.{length, get_or, take, length-append, get_or-eq_default, length-map}
use Rattle.spec.specs.Words.{Subgoal, Term, var, con}
use Rattle.codes.specs.Code.{padded, subgoal_codes, codes_of, widths_of, term_code}

pub padded-length : (n : ℕ) (l : List ℕ) → length (padded n l) ≡ n
padded-length zero l = refl
padded-length (suc n) [] = ap suc (padded-length n [])
padded-length (suc n) (x ∷ l) = ap suc (padded-length n l)

-- where the list has ended stands 1
pub padded-at : (n : ℕ) (l : List ℕ) (k : ℕ) → k < n → get_or (padded n l) k 0 ≡ get_or l k 1
padded-at zero l k h = absurd (omega arith)
padded-at (suc n) [] zero h = refl
padded-at (suc n) [] (suc k) h = padded-at n [] k (omega arith)
padded-at (suc n) (x ∷ l) zero h = refl
padded-at (suc n) (x ∷ l) (suc k) h = padded-at n l k (omega arith)

pub padded-get : (n : ℕ) (l : List ℕ) (i : ℕ) → i < n → i < length l → get_or (padded n l) i 0 ≡ get_or l i 0
padded-get zero l i h m = absurd (omega arith)
padded-get (suc n) [] i h m = absurd (omega arith)
padded-get (suc n) (x ∷ l) zero h m = refl
padded-get (suc n) (x ∷ l) (suc i) h m = padded-get n l i (omega arith) (omega arith)

pub padded-past : (n : ℕ) (l : List ℕ) (i : ℕ) → i < n → length l ≤ i → get_or (padded n l) i 0 ≡ 1
padded-past n l i h m = padded-at n l i h ∙ get_or-eq_default l 1 {n = i} m

-- the codes filled up begin with the codes
pub padded-front : (n : ℕ) (l : List ℕ) → length l ≤ n → take (length l) (padded n l) ≡ l
padded-front n [] h = refl
padded-front zero (x ∷ l) h = absurd (omega arith)
padded-front (suc n) (x ∷ l) h = ap (◌∷◌ x) (padded-front n l (omega arith))

module _ {A : Type 0} (code : A → ℕ) where
  pub nine : (g : Subgoal A) → length (subgoal_codes code g) ≡ 9
  nine g = ap suc (padded-length 8 (map code g.terms))

  pub codes-length : (gs : List (Subgoal A)) → length (codes_of code gs) ≡ 9 * length gs
  codes-length [] = refl
  codes-length (g ∷ gs) = omega (arith, length-append (subgoal_codes code g) (codes_of code gs), nine g, codes-length gs)

pub widths-length : {A : Type 0} (l : List (Subgoal A)) → length (widths_of l) ≡ length l
widths-length l = length-map l (λ g. length g.terms)

pub codes-append : {A : Type 0} (code : A → ℕ) (l m : List (Subgoal A)) → codes_of code (l ++ m) ≡ codes_of code l ++ codes_of code m
codes-append code [] m = refl
codes-append code (g ∷ l) m = ap (λ w. subgoal_codes code g ++ w) (codes-append code l m) ∙ sym (append_assoc (subgoal_codes code g) (codes_of code l) (codes_of code m))

-- no term's code is the one where a subgoal's terms have ended
pub code-no-end : (t : Term ℕ) → term_code t ≡ 1 → ⊥
code-no-end (var x) e = omega arith
code-no-end (con c) e = omega arith

module _ {A : Type 0} (code : A → ℕ) where
  -- one subgoal more
  pub codes-more : (gs : List (Subgoal A)) (g : Subgoal A) → codes_of code (gs ++ (g ∷ [])) ≡ codes_of code gs ++ subgoal_codes code g
  codes-more [] g = append-nil (subgoal_codes code g)
  codes-more (h ∷ gs) g = rw (codes-more gs g) (sym (append_assoc (subgoal_codes code h) (codes_of code gs) (subgoal_codes code g)))

pub widths-more : {A : Type 0} (gs : List (Subgoal A)) (g : Subgoal A) → widths_of (gs ++ (g ∷ [])) ≡ widths_of gs ++ (length g.terms ∷ [])
widths-more [] g = refl
widths-more (h ∷ gs) g = ap (λ l. length h.terms ∷ l) (widths-more gs g)
