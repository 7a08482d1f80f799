-- Lists compared by their fronts.
use mathlib.Core.Path.{◌≡◌, refl, sym, ap, ap₂, ◌∙◌, subst}
use mathlib.Core.Logic.{◌⊎◌, inl, inr, ⊎_elim}
use mathlib.Core.List.{List, [], ◌∷◌, ◌++◌, head-eq_of_cons-eq, tail-eq_of_cons-eq}
use Prim.Native.Nat.{ℕ, zero, suc, ◌<◌, ◌≤◌}
use native.Mathlib.Omega.{arith}
use lib.ListN.{length, get_or, take, drop, take-append-drop}
use lib.Seq.{length-take-le}
use Rattle.spec.specs.Order.{ListBefore}

module _ {A : Type 0} (before : A → A → Type 0) where
  -- after the same front what follows decides
  pub front_same : (a x y : List A) → ListBefore before x y → ListBefore before (a ++ x) (a ++ y)
  front_same [] x y h = h
  front_same (c ∷ a) x y h = inr (refl, front_same a x y h)

  -- where one front is before another, as long, nothing that follows matters
  pub front-before : (a b x y : List A) → length a ≡ length b → ListBefore before a b → ListBefore before (a ++ x) (b ++ y)
  front-before [] [] x y e h = absurd h
  front-before [] (d ∷ b) x y e h = let z : ⊥ = omega arith in absurd z
  front-before (c ∷ a) [] x y e h = absurd h
  front-before (c ∷ a) (d ∷ b) x y e (inl h) = inl h
  front-before (c ∷ a) (d ∷ b) x y e (inr h) = inr (h.0, front-before a b x y (omega arith) h.1)

  -- of lists as long, the fronts decide, or they are the same and what follows decides
  pub front-split : (j : ℕ) (l m : List A) → length l ≡ length m → ListBefore before l m
      → ListBefore before (take j l) (take j m) ⊎ ((take j l ≡ take j m) × ListBefore before (drop j l) (drop j m))
  front-split zero l m e h = inr (refl, h)
  front-split (suc j) [] [] e h = absurd h
  front-split (suc j) [] (y ∷ m) e h = let z : ⊥ = omega arith in absurd z
  front-split (suc j) (x ∷ l) [] e h = absurd h
  front-split (suc j) (x ∷ l) (y ∷ m) e (inl h) = inl (inl h)
  front-split (suc j) (x ∷ l) (y ∷ m) e (inr h) = ⊎_elim (λ k. inl (inr (h.0, k))) (λ k. inr (ap₂ ◌∷◌ h.0 k.0, k.1)) (front-split j l m (omega arith) h.1)

-- where the fronts are in order the lists are
pub front-decides : (n : ℕ) (l m : List ℕ) → n ≤ length l → n ≤ length m → ListBefore ◌<◌ (take n l) (take n m) → ListBefore ◌<◌ l m
front-decides n l m a b h = subst (ListBefore ◌<◌ l) (take-append-drop n m)
    (subst (λ x. ListBefore ◌<◌ x (take n m ++ drop n m)) (take-append-drop n l) (front-before ◌<◌ (take n l) (take n m) (drop n l) (drop n m) (length-take-le n l a ∙ sym (length-take-le n m b)) h))

-- Where the fronts are the same, the number at the place after them decides, or it is the same too.
pub split-later : (j : ℕ) (a b : List ℕ) → length a ≡ length b → j < length a → take j a ≡ take j b → ListBefore ◌<◌ (drop j a) (drop j b)
    → (get_or a j 0 < get_or b j 0) ⊎ ((take (suc j) a ≡ take (suc j) b) × ListBefore ◌<◌ (drop (suc j) a) (drop (suc j) b))
split-later j [] b e h q l = absurd (omega arith)
split-later j (x ∷ a) [] e h q l = absurd (omega arith)
split-later zero (x ∷ a) (y ∷ b) e h q (inl l) = inl l
split-later zero (x ∷ a) (y ∷ b) e h q (inr l) = inr (ap (λ n. n ∷ []) l.0, l.1)
split-later (suc j) (x ∷ a) (y ∷ b) e h q l = ⊎_elim inl (λ w. inr (ap₂ ◌∷◌ (head-eq_of_cons-eq q) w.0, w.1)) (split-later j a b (omega arith) (omega arith) (tail-eq_of_cons-eq q) l)
