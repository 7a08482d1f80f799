-- Rows in use and rows that may be taken: what is open, and what is afforded.
use mathlib.Core.Path.{◌≡◌, sym, subst}
use mathlib.Core.Logic.{◌⊎◌, inl, inr}
use mathlib.Core.List.Memᴰ
use mathlib.Core.List.{List, [], ◌∷◌}
use Prim.Native.Nat.{ℕ}
use Rattle.bits.specs.Sets.{Has, with}
use Rattle.bits.proofs.Laws.{with-old, with_cases}
use Rattle.task.specs.Task.{Task, row_of}
use Rattle.lookahead.specs.Taking.{Enters, left_after, Affords, Open}

-- one row more in use shuts nothing
pub open-with : (p : Task) (used may row : ℕ) (l : List ℕ) → Open p used may l → Open p (with used row) may l
open-with p used may row l o k m = go (o k m)
  where
    go : Has used (row_of p k) ⊎ Has may (row_of p k) → Has (with used row) (row_of p k) ⊎ Has may (row_of p k)
    go (inl h) = inl (with-old used row (row_of p k) h)
    go (inr h) = inr h

pub open-tail : (p : Task) (used may k : ℕ) (l : List ℕ) → Open p used may (k ∷ l) → Open p used may l
open-tail p used may k l o j m = o j (Memᴰ.tail m)

entered : (used may left row : ℕ) → Enters used may left row → Has used row ⊎ Has may row
entered used may left row (inl h) = inl h
entered used may left row (inr h) = inr h.0

pub affords-open : (p : Task) (used may left : ℕ) (l : List ℕ) → Affords p used may left l → Open p used may l
affords-open p used may left [] a j m = absurd (Memᴰ.not-nil m)
affords-open p used may left (k ∷ l) a j (Memᴰ.head e) = subst (λ i. Has used (row_of p i) ⊎ Has may (row_of p i)) (sym e) (entered used may left (row_of p k) a.0)
affords-open p used may left (k ∷ l) a j (Memᴰ.tail m) = go (affords-open p (with used (row_of p k)) may (left_after used left (row_of p k)) l a.1 j m)
  where
    old : Has used (row_of p j) ⊎ (row_of p j ≡ row_of p k) → Has used (row_of p j) ⊎ Has may (row_of p j)
    old (inl h) = inl h
    old (inr e) = subst (λ r. Has used r ⊎ Has may r) (sym e) (entered used may left (row_of p k) a.0)

    go : Has (with used (row_of p k)) (row_of p j) ⊎ Has may (row_of p j) → Has used (row_of p j) ⊎ Has may (row_of p j)
    go (inl h) = old (with_cases used (row_of p k) (row_of p j) h)
    go (inr h) = inr h

-- rows all in use cost nothing
pub affords-used : (p : Task) (used may left : ℕ) → ((k : ℕ) → Has used (row_of p k)) → (l : List ℕ) → Affords p used may left l
affords-used p used may left h [] = tt
affords-used p used may left h (k ∷ l) = (inl (h k), affords-used p (with used (row_of p k)) may (left_after used left (row_of p k)) (λ j. with-old used (row_of p k) (row_of p j) (h j)) l)
