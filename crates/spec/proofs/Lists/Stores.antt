-- Numbers stored one after the other into a list.
use mathlib.Core.Path.{◌≡◌, ap, ◌∙◌, sym, refl}
use mathlib.Core.List.{List, [], ◌∷◌, ◌++◌, append-nil}
use Prim.Native.Nat.{ℕ, suc, ◌+◌, ◌≤◌, ◌<◌}
use native.Mathlib.Omega.{arith}
use lib.ListN.{length, set, drop, get_or, take, length-drop, drop_of_length-le}
use lib.Seq.{sets, sets-eq, take-suc, get_or-drop, length-take-le, get_or-set_same, get_or-set_other}
use native.Mathlib.Numerals.{add-one}
use mathlib.Core.Bool.{Bool, true, false, cond}
use lib.Dec.{eqb}
use borrow.Author.Tests.{eqb-true, eqb-false}

-- two runs of stores are one
pub sets-append : (l : List ℕ) (i : ℕ) (vs ws : List ℕ) → sets (sets l i vs) (i + length vs) ws ≡ sets l i (vs ++ ws)
sets-append l i [] ws = let e : i + 0 ≡ i = omega arith in ap (λ k. sets l k ws) e
sets-append l i (v ∷ vs) ws = let e : i + suc (length vs) ≡ suc i + length vs = omega arith in ap (λ k. sets (sets (set l i v) (suc i) vs) k ws) e ∙ sets-append (set l i v) (suc i) vs ws

pub sets-next : (l : List ℕ) (i j : ℕ) (vs ws : List ℕ) → j ≡ i + length vs → sets (sets l i vs) j ws ≡ sets l i (vs ++ ws)
sets-next l i j vs ws e = ap (λ k. sets (sets l i vs) k ws) e ∙ sets-append l i vs ws

-- one store more
pub sets_more : (l : List ℕ) (i : ℕ) (vs : List ℕ) (v : ℕ) → set (sets l i vs) (i + length vs) v ≡ sets l i (vs ++ (v ∷ []))
sets_more l i vs v = sets-append l i vs (v ∷ [])

-- what is stored at the start of an area
pub stored-front : (front before : List ℕ) → length front ≤ length before → sets before 0 front ≡ front ++ drop (length front) before
stored-front front before h = sets-eq front before 0 (omega arith) ∙ (let z : 0 + length front ≡ length front = omega arith in ap (λ n. front ++ drop n before) z)

-- the five stores of a term
pub five : (l : List ℕ) (at t a b c d : ℕ) → set (set (set (set (set l at t) (at + 1) a) (at + 2) b) (at + 3) c) (at + 4) d ≡ sets l at (t ∷ a ∷ b ∷ c ∷ d ∷ [])
five l at t a b c d =
    let e1 : at + 1 ≡ suc at = omega arith in
    let e2 : at + 2 ≡ suc (suc at) = omega arith in
    let e3 : at + 3 ≡ suc (suc (suc at)) = omega arith in
    let e4 : at + 4 ≡ suc (suc (suc (suc at))) = omega arith in
    rw (e1, e2, e3, e4)

-- one byte more
pub byte-stored : (out bytes : List ℕ) (at from i : ℕ) → from + i < length bytes
    → set (sets out at (take i (drop from bytes))) (at + i) (get_or bytes (from + i) 0) ≡ sets out at (take (i + 1) (drop from bytes))
byte-stored out bytes at from i h =
    let l : i < length (drop from bytes) = omega (arith, length-drop from bytes) in
    sets-next out at (at + i) (take i (drop from bytes)) (get_or bytes (from + i) 0 ∷ []) (omega (arith, length-take-le i (drop from bytes) (omega arith)))
    ∙ ap (sets out at) (sym (ap (λ k. take k (drop from bytes)) (add-one i) ∙ take-suc (drop from bytes) i 0 l ∙ ap (λ x. take i (drop from bytes) ++ (x ∷ [])) (get_or-drop from bytes i 0)))

-- all of an area stored
pub stores-whole : (before codes : List ℕ) → length codes ≡ length before → sets before 0 codes ≡ codes
stores-whole before codes h = sets-eq codes before 0 (omega arith) ∙ ap (λ l. codes ++ l) (over (length codes) before (omega arith)) ∙ append-nil codes
  where
    over : (n : ℕ) (l : List ℕ) → length l ≤ n → drop (0 + n) l ≡ []
    over n l h = let z : 0 + n ≡ n = omega arith in rw z (drop_of_length-le l h)

-- what stands at a place after a store
pub after_store : (l : List ℕ) (i v x : ℕ) → i < length l → get_or (set l i v) x 0 ≡ cond (eqb i x) v (get_or l x 0)
after_store l i v x h = go (eqb i x) refl
  where
    go : (b : Bool) → eqb i x ≡ b → get_or (set l i v) x 0 ≡ cond b v (get_or l x 0)
    go true e = let same : i ≡ x = eqb-true i x e in rw (sym same) (get_or-set_same l i v 0 h)
    go false e = get_or-set_other l i x v 0 (λ q. eqb-false i x e (sym q))
