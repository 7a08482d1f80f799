-- What some rows serve together.
use mathlib.Core.Path.{subst, sym}
use mathlib.Core.List.Memᴰ
use mathlib.Core.List.{List, [], ◌∷◌}
use Prim.Native.Nat.{ℕ, ◌+◌, ◌*◌, ◌<◌, ◌≤◌}
use native.Mathlib.Omega.{arith}
use native.Mathlib.Nat.{suc-mul}
use lib.ListN.{length, get_or}
use Rattle.spec.specs.Words.{◌∈◌}

pub total : List ℕ → List ℕ → ℕ
total served [] = 0
total served (x ∷ rows) = get_or served x 0 + total served rows

-- where each serves at least as many ..
module _ (old new : List ℕ) (grows : (x : ℕ) → get_or old x 0 ≤ get_or new x 0) where
  total-grows : (rows : List ℕ) → total old rows ≤ total new rows
  unfolding total
  total-grows [] = omega arith
  total-grows (x ∷ rows) = omega (arith, grows x, total-grows rows)

  -- .. and one of the rows more, so do all
  pub total-more : (rows : List ℕ) (x : ℕ) → x ∈ rows → get_or old x 0 < get_or new x 0 → total old rows < total new rows
  unfolding total
  total-more (y ∷ rows) x (Memᴰ.head e) h = subst (λ z. get_or old z 0 < get_or new z 0 → get_or old y 0 + total old rows < get_or new y 0 + total new rows) (sym e) (λ i. omega (arith, i, total-grows rows)) h
  total-more (y ∷ rows) x (Memᴰ.tail m) h = omega (arith, grows y, total-more rows x m h)
  total-more [] x x4 h = elim x4 [ ]

-- where no row serves more than m
pub total-most : (served : List ℕ) (m : ℕ) → ((x : ℕ) → get_or served x 0 ≤ m) → (rows : List ℕ) → total served rows ≤ length rows * m
unfolding total
total-most served m h [] = omega arith
total-most served m h (x ∷ rows) = omega (arith, h x, suc-mul (length rows) m, total-most served m h rows)
