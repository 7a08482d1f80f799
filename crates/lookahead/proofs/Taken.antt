-- Rows entered one after the other, and rows taken all at once: the same targets.
use mathlib.Core.Path.{◌≡◌, refl, sym, subst, ◌∙◌}
use mathlib.Core.Logic.{◌⊎◌, inl, inr}
use mathlib.Core.Bool.{Bool, true, false, cond, true≢false}
use mathlib.Core.List.Memᴰ
use mathlib.Core.List.{List, [], ◌∷◌}
use Prim.Native.Nat.{ℕ, ◌-◌}
use native.Mathlib.Omega.{arith}
use native.Mathlib.Decide.{ℕ_discrete}
use Rattle.spec.specs.Words.{◌∈◌}
use Rattle.bits.specs.Sets.{Has, has, with}
use Rattle.bits.proofs.Laws.{has-true, true-has, with-new, with-old, with_cases}
use Rattle.task.specs.Task.{Task, row_of}
use Rattle.task.specs.Mapped.{InRows}
use Rattle.lookahead.specs.Taking.{Enters, left_after, Affords}
use Rattle.spec.proofs.Lists.Lacking.{lacking, lacking-long, lacking-out, lacking-in}

-- what entering makes of the rows left
left-free : (used left row : ℕ) → Has used row → left_after used left row ≡ left
left-free used left row h = rw (true-has used row h)

left-paid : (used left row : ℕ) → (Has used row → ⊥) → left_after used left row ≡ left - 1
left-paid used left row f = go (has used row) refl
  where
    go : (b : Bool) → has used row ≡ b → cond b left (left - 1) ≡ left - 1
    go true e = absurd (f (has-true used row e))
    go false e = refl

pub has-not : (set x : ℕ) → has set x ≡ false → Has set x → ⊥
has-not set x e h = true≢false (sym (true-has set x h) ∙ e)

dec_has : (set x : ℕ) → Dec (Has set x)
dec_has set x = go (has set x) refl
  where
    go : (b : Bool) → has set x ≡ b → Dec (Has set x)
    go true e = yes (has-true set x e)
    go false e = no (has-not set x e)

module _ (p : Task) (used may left k : ℕ) (l : List ℕ) where
  -- the rows that the first target leaves to the others
  pub rows-tail : InRows p used may left (k ∷ l) → InRows p (with used (row_of p k)) may (left_after used left (row_of p k)) l
  rows-tail r = elim (dec_has used (row_of p k)) [ yes h ↦ free h | no f ↦ paid f (r.each k (Memᴰ.head refl)) ]
    where
      grown : (j : ℕ) → Has used j ⊎ (j ∈ r.taken) → Has (with used (row_of p k)) j ⊎ (j ∈ r.taken)
      grown j (inl h) = inl (with-old used (row_of p k) j h)
      grown j (inr m) = inr m

      free : Has used (row_of p k) → InRows p (with used (row_of p k)) may (left_after used left (row_of p k)) l
      free h = record { taken = r.taken; few = omega (arith, r.few, left-free used left (row_of p k) h); allowed = r.allowed; each = λ j m. grown (row_of p j) (r.each j (Memᴰ.tail m)) }

      kept : (m : row_of p k ∈ r.taken) (j : ℕ) → Has used j ⊎ (j ∈ r.taken) → Has (with used (row_of p k)) j ⊎ (j ∈ lacking (row_of p k) r.taken m)
      kept m j (inl h) = inl (with-old used (row_of p k) j h)
      kept m j (inr n) = elim (ℕ_discrete j (row_of p k)) [
        | yes e ↦ inl (rw e (with-new used (row_of p k)))
        | no d ↦ inr (lacking-in (row_of p k) r.taken m j d n)
      ]

      paid : (Has used (row_of p k) → ⊥) → Has used (row_of p k) ⊎ (row_of p k ∈ r.taken) → InRows p (with used (row_of p k)) may (left_after used left (row_of p k)) l
      paid f (inl h) = absurd (f h)
      paid f (inr m) =
          record {
            taken = lacking (row_of p k) r.taken m;
            few = omega (arith, r.few, left-paid used left (row_of p k) f, lacking-long (row_of p k) r.taken m);
            allowed = λ j n. r.allowed j (lacking-out (row_of p k) r.taken m j n);
            each = λ j n. kept m (row_of p j) (r.each j (Memᴰ.tail n));
          }

  pub rows-enters : InRows p used may left (k ∷ l) → Enters used may left (row_of p k)
  rows-enters r = go (r.each k (Memᴰ.head refl))
    where
      go : Has used (row_of p k) ⊎ (row_of p k ∈ r.taken) → Enters used may left (row_of p k)
      go (inl h) = inl h
      go (inr m) = inr (r.allowed (row_of p k) m, omega (arith, r.few, lacking-long (row_of p k) r.taken m))

  -- and back: the first target's row is in use already, or is one more that is taken
  pub rows-cons : Enters used may left (row_of p k) → InRows p (with used (row_of p k)) may (left_after used left (row_of p k)) l → InRows p used may left (k ∷ l)
  rows-cons n r = elim (dec_has used (row_of p k)) [ yes h ↦ free h | no f ↦ paid f n ]
    where
      first : (t : List ℕ) → Has used (row_of p k) ⊎ (row_of p k ∈ t) → ((j : ℕ) → j ∈ r.taken → j ∈ t) → (j : ℕ) → j ∈ (k ∷ l) → Has used (row_of p j) ⊎ (row_of p j ∈ t)
      first t h i j (Memᴰ.head e) = subst (λ n. Has used (row_of p n) ⊎ (row_of p n ∈ t)) (sym e) h
      first t h i j (Memᴰ.tail m) = go (r.each j m)
        where
          old : Has used (row_of p j) ⊎ (row_of p j ≡ row_of p k) → Has used (row_of p j) ⊎ (row_of p j ∈ t)
          old (inl u) = inl u
          old (inr e) = subst (λ n. Has used n ⊎ (n ∈ t)) (sym e) h

          go : Has (with used (row_of p k)) (row_of p j) ⊎ (row_of p j ∈ r.taken) → Has used (row_of p j) ⊎ (row_of p j ∈ t)
          go (inl u) = old (with_cases used (row_of p k) (row_of p j) u)
          go (inr u) = inr (i (row_of p j) u)

      free : Has used (row_of p k) → InRows p used may left (k ∷ l)
      free h = record { taken = r.taken; few = omega (arith, r.few, left-free used left (row_of p k) h); allowed = r.allowed; each = first r.taken (inl h) (λ j m. m) }

      paid : (Has used (row_of p k) → ⊥) → Enters used may left (row_of p k) → InRows p used may left (k ∷ l)
      paid f (inl h) = absurd (f h)
      paid f (inr h) = record { taken = row_of p k ∷ r.taken; few = omega (arith, r.few, left-paid used left (row_of p k) f, h.1); allowed = allowed; each = first (row_of p k ∷ r.taken) (inr (Memᴰ.head refl)) (λ j m. Memᴰ.tail m) }
        where
          allowed : (j : ℕ) → j ∈ (row_of p k ∷ r.taken) → Has may j
          allowed j (Memᴰ.head e) = rw e h.0
          allowed j (Memᴰ.tail m) = r.allowed j m

module _ (p : Task) (may : ℕ) where
  pub rows-affords : (used left : ℕ) (l : List ℕ) → InRows p used may left l → Affords p used may left l
  rows-affords used left [] r = tt
  rows-affords used left (k ∷ l) r = (rows-enters p used may left k l r, rows-affords (with used (row_of p k)) (left_after used left (row_of p k)) l (rows-tail p used may left k l r))

  pub affords-rows : (used left : ℕ) (l : List ℕ) → Affords p used may left l → InRows p used may left l
  affords-rows used left [] a = record { taken = []; few = omega arith; allowed = λ j m. absurd (Memᴰ.not-nil m); each = λ j m. absurd (Memᴰ.not-nil m) }
  affords-rows used left (k ∷ l) a = rows-cons p used may left k l a.0 (affords-rows (with used (row_of p k)) (left_after used left (row_of p k)) l a.1)

  -- the targets after the first, where another row is in use already: it costs nothing
  pub affords-free : (used left row k : ℕ) (l : List ℕ) → Has used row → Affords p used may left (k ∷ l) → Affords p (with used row) may (left_after used left row) l
  affords-free used left row k l h a = rows-affords (with used row) (left_after used left row) l (free (affords-rows used left (k ∷ l) a))
    where
      old : (r : InRows p used may left (k ∷ l)) (j : ℕ) → Has used j ⊎ (j ∈ r.taken) → Has (with used row) j ⊎ (j ∈ r.taken)
      old r j (inl u) = inl (with-old used row j u)
      old r j (inr m) = inr m

      free : InRows p used may left (k ∷ l) → InRows p (with used row) may (left_after used left row) l
      free r = record { taken = r.taken; few = omega (arith, r.few, left-free used left row h); allowed = r.allowed; each = λ j m. old r (row_of p j) (r.each j (Memᴰ.tail m)) }
