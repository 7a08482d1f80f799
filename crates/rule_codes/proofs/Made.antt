-- An array made element by element, by calls that leave the closure as it is.
use mathlib.Core.Path.{◌≡◌, subst}
use mathlib.Core.List.{List}
use Prim.Native.Nat.{ℕ, zero, suc, ◌+◌, ◌<◌}
use native.Mathlib.Omega.{arith}
use denote.Param.Members.{Mut}
use lib.ListN.{get_or}
use Rattle.std.specs.Fn.{Called}
use Rattle.std.specs.Array.{IsFromFnResult, IsFromFnResultFrom}

module _ {F B : Type 0} {g : Mut F (ℕ × Unit {0}) B} (P : ℕ → B → Type 0) {f : F} (call : (i : ℕ) (y : B) (q : F) → Called g f (i, tt) y q → P i y × (q ≡ f)) where
  made_from : (ys : List B) (i n : ℕ) → IsFromFnResultFrom g f ys i n → (k j : ℕ) (d : B) → k < n → j ≡ i + k → P j (get_or ys j d)
  made_from ys i zero m k j d h e = absurd (omega arith)
  made_from ys i (suc n) (q, y, at, called, others) zero j d h e = let same : j ≡ i = omega arith in rw (same, at.1 d) (call i y q called).0
  made_from ys i (suc n) (q, y, at, called, others) (suc k) j d h e =
      made_from ys (i + 1) n (subst (λ p. IsFromFnResultFrom g p ys (i + 1) n) (call i y q called).1 others) k j d (omega arith) (omega arith)

  -- each element has the property of what a call gave
  pub made : {ys : List B} {n : ℕ} → IsFromFnResult g f ys n → (k : ℕ) (d : B) → k < n → P k (get_or ys k d)
  made {ys} {n} m k d h = made_from ys 0 n m.each k k d h (omega arith)
