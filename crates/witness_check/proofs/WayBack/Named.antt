-- Bytes and the places that they name: as lists, both ways.
use mathlib.Core.Path.{◌≡◌, refl, sym, ap₂}
use mathlib.Core.List.{List, [], ◌∷◌, map}
use Prim.Native.Nat.{ℕ, zero, suc, ◌<◌}
use native.Mathlib.Omega.{arith}
use lib.ListN.{length, get_or}

pub bytes-named : (bytes l : List ℕ) → length bytes ≡ length l → ((i : ℕ) → i < length l → get_or bytes i 0 ≡ suc (get_or l i 0)) → map suc l ≡ bytes
bytes-named [] [] n h = refl
bytes-named [] (x ∷ l) n h = absurd (omega arith)
bytes-named (a ∷ bytes) [] n h = absurd (omega arith)
bytes-named (a ∷ bytes) (x ∷ l) n h = ap₂ ◌∷◌ (sym (h 0 (omega arith))) (bytes-named bytes l (omega arith) (λ i o. h (suc i) (omega arith)))

pub named-bytes : (l m : List ℕ) → map suc l ≡ map suc m → l ≡ m
named-bytes [] [] e = refl
named-bytes [] (y ∷ m) e = absurd (cc)
named-bytes (x ∷ l) [] e = absurd (cc)
named-bytes (x ∷ l) (y ∷ m) e = ap₂ ◌∷◌ (cc) (named-bytes l m (cc))

-- bytes that name places have no 0 among them
pub no-zero : (l : List ℕ) (i : ℕ) → i < length l → get_or (map suc l) i 0 ≡ 0 → ⊥
no-zero [] i h e = omega arith
no-zero (x ∷ l) zero h e = omega arith
no-zero (x ∷ l) (suc i) h e = no-zero l i (omega arith) e
