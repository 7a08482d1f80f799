-- A list that lacks one of its numbers.
use mathlib.Core.Path.{◌≡◌, refl, sym, ◌∙◌}
use mathlib.Core.List.Memᴰ
use mathlib.Core.List.{List, [], ◌∷◌}
use Prim.Native.Nat.{ℕ, suc}
use native.Mathlib.Omega.{arith}
use lib.ListN.{length}
use Rattle.spec.specs.Words.{◌∈◌}

-- where x is found, it is left out
pub lacking : (x : ℕ) (l : List ℕ) → x ∈ l → List ℕ
lacking x (y ∷ l) (Memᴰ.head e) = l
lacking x (y ∷ l) (Memᴰ.tail m) = y ∷ lacking x l m
lacking x [] x'' = elim x'' [ ]

pub lacking-long : (x : ℕ) (l : List ℕ) (m : x ∈ l) → suc (length (lacking x l m)) ≡ length l
unfolding lacking
lacking-long x (y ∷ l) (Memᴰ.head e) = refl
lacking-long x (y ∷ l) (Memᴰ.tail m) = let ih = lacking-long x l m in omega arith
lacking-long x [] m = elim m [ ]

pub lacking-out : (x : ℕ) (l : List ℕ) (m : x ∈ l) (z : ℕ) → z ∈ lacking x l m → z ∈ l
unfolding lacking
lacking-out x (y ∷ l) (Memᴰ.head e) z n = Memᴰ.tail n
lacking-out x (y ∷ l) (Memᴰ.tail m) z (Memᴰ.head e) = Memᴰ.head e
lacking-out x (y ∷ l) (Memᴰ.tail m) z (Memᴰ.tail n) = Memᴰ.tail (lacking-out x l m z n)
lacking-out x [] m z n = elim m [ ]

pub lacking-in : (x : ℕ) (l : List ℕ) (m : x ∈ l) (z : ℕ) → (z ≡ x → ⊥) → z ∈ l → z ∈ lacking x l m
unfolding lacking
lacking-in x (y ∷ l) (Memᴰ.head e) z f (Memᴰ.head d) = absurd (f (d ∙ sym e))
lacking-in x (y ∷ l) (Memᴰ.head e) z f (Memᴰ.tail n) = n
lacking-in x (y ∷ l) (Memᴰ.tail m) z f (Memᴰ.head d) = Memᴰ.head d
lacking-in x (y ∷ l) (Memᴰ.tail m) z f (Memᴰ.tail n) = Memᴰ.tail (lacking-in x l m z f n)
lacking-in x [] m z f _ = elim m [ ]
