-- A list put in order, equal elements once.
use mathlib.Core.Path.{◌≡◌, refl, sym, ◌∙◌, subst}
use mathlib.Core.Logic.{◌⊎◌, inl, inr, ⊎_elim}
use mathlib.Core.Bool.{Bool, true, false, cond}
use mathlib.Core.List.Memᴰ
use mathlib.Core.List.{List, [], ◌∷◌}
use Rattle.spec.specs.Words.{◌∈◌}
use Rattle.spec.proofs.Lists.Tests.{passes, fails}
use Rattle.spec.proofs.Lists.Strict.{Strict}
use Rattle.spec.proofs.Lists.Rising.{Rising}

module _ {A : Type 0} {Before : A → A → Type 0} (o : Strict Before) where
  abbrev pub insert : A → List A → List A
  insert a [] = a ∷ []
  insert a (b ∷ l) = cond (o.test a b) (a ∷ b ∷ l) (cond (o.test b a) (b ∷ insert a l) (b ∷ l))

  abbrev pub sorted : List A → List A
  sorted [] = []
  sorted (a ∷ l) = insert a (sorted l)

  -- neither is before the other
  neither : (a b : A) → o.test a b ≡ false → o.test b a ≡ false → a ≡ b
  neither a b p q = ⊎_elim (λ h. absurd (fails p (o.complete a b h))) (⊎_elim (λ e. e) (λ h. absurd (fails q (o.complete b a h)))) (o.compare a b)

  insert-out : (a : A) (l : List A) (c : A) → c ∈ insert a l → (c ≡ a) ⊎ (c ∈ l)
  insert-out a [] c (Memᴰ.head e) = inl e
  insert-out a [] c (Memᴰ.tail i) = inr i
  insert-out a (b ∷ l) c i = go (insert-out a l c) (o.test a b) (o.test b a) i
    where
      go : (c ∈ insert a l → (c ≡ a) ⊎ (c ∈ l)) → (t u : Bool) → c ∈ cond t (a ∷ b ∷ l) (cond u (b ∷ insert a l) (b ∷ l)) → (c ≡ a) ⊎ (c ∈ (b ∷ l))
      go rest true u (Memᴰ.head e) = inl e
      go rest true u (Memᴰ.tail i) = inr i
      go rest false true (Memᴰ.head e) = inr (Memᴰ.head e)
      go rest false true (Memᴰ.tail i) = ⊎_elim inl (λ j. inr (Memᴰ.tail j)) (rest i)
      go rest false false i = inr i

  insert-in : (a : A) (l : List A) (c : A) → (c ≡ a) ⊎ (c ∈ l) → c ∈ insert a l
  insert-in a [] c (inl e) = Memᴰ.head e
  insert-in a [] c (inr i) = absurd (Memᴰ.not-nil i)
  insert-in a (b ∷ l) c i = go (insert-in a l c) (o.test a b) refl (o.test b a) refl i
    where
      go : ((c ≡ a) ⊎ (c ∈ l) → c ∈ insert a l) → (t : Bool) → o.test a b ≡ t → (u : Bool) → o.test b a ≡ u → (c ≡ a) ⊎ (c ∈ (b ∷ l)) → c ∈ cond t (a ∷ b ∷ l) (cond u (b ∷ insert a l) (b ∷ l))
      go rest true p u q (inl e) = Memᴰ.head e
      go rest true p u q (inr i) = Memᴰ.tail i
      go rest false p true q (inl e) = Memᴰ.tail (rest (inl e))
      go rest false p true q (inr (Memᴰ.head e)) = Memᴰ.head e
      go rest false p true q (inr (Memᴰ.tail i)) = Memᴰ.tail (rest (inr i))
      go rest false p false q (inl e) = Memᴰ.head (e ∙ neither a b p q)
      go rest false p false q (inr i) = i

  insert-rising : (a : A) (l : List A) → Rising Before l → Rising Before (insert a l)
  insert-rising a [] r = (λ c i. absurd (Memᴰ.not-nil i), tt)
  insert-rising a (b ∷ l) r = go (insert-rising a l r.1) (o.test a b) refl (o.test b a) refl
    where
      after : Before a b → (c : A) → c ∈ (b ∷ l) → Before a c
      after h c (Memᴰ.head e) = subst (Before a) (sym e) h
      after h c (Memᴰ.tail i) = o.trans a b c h (r.0 c i)

      go : Rising Before (insert a l) → (t : Bool) → o.test a b ≡ t → (u : Bool) → o.test b a ≡ u → Rising Before (cond t (a ∷ b ∷ l) (cond u (b ∷ insert a l) (b ∷ l)))
      go rest true p u q = (after (o.sound a b (passes p)), r)
      go rest false p true q = (λ c i. ⊎_elim (λ e. subst (Before b) (sym e) (o.sound b a (passes q))) (r.0 c) (insert-out a l c i), rest)
      go rest false p false q = r

  pub sorted-out : (l : List A) (c : A) → c ∈ sorted l → c ∈ l
  sorted-out [] c i = i
  sorted-out (a ∷ l) c i = ⊎_elim (λ e. Memᴰ.head e) (λ j. Memᴰ.tail (sorted-out l c j)) (insert-out a (sorted l) c i)

  pub sorted-in : (l : List A) (c : A) → c ∈ l → c ∈ sorted l
  sorted-in (a ∷ l) c (Memᴰ.head e) = insert-in a (sorted l) c (inl e)
  sorted-in (a ∷ l) c (Memᴰ.tail i) = insert-in a (sorted l) c (inr (sorted-in l c i))
  sorted-in [] c x' = elim x' [ ]

  pub sorted-rising : (l : List A) → Rising Before (sorted l)
  sorted-rising [] = tt
  sorted-rising (a ∷ l) = insert-rising a (sorted l) (sorted-rising l)
