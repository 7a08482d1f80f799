-- How long lists are that are joined of parts.
use mathlib.Core.Path.{refl, ◌≡◌, sym, ap, ◌∙◌, subst}
use mathlib.Core.List.Memᴰ
use mathlib.Core.List.{List, [], ◌∷◌, map, ◌++◌, append_assoc, append-nil}
use Prim.Native.Nat.{ℕ, ◌*◌, ◌≤◌}
use native.Mathlib.Nat.{mul-zero, mul-suc}
use native.Mathlib.Omega.{arith}
use lib.ListN.{length, length-append}
use Rattle.spec.specs.Words.{◌∈◌}
use Rattle.spec.specs.Summaries.{joined}
use mathlib.Core.Logic.{⊎_elim}

module _ {A B : Type 0} (f : A → List B) (k : ℕ) where
  pub joined-least : (l : List A) → ((a : A) → a ∈ l → k ≤ length (f a)) → k * length l ≤ length (joined (map f l))
  joined-least [] h = omega (arith, mul-zero k)
  joined-least (a ∷ l) h =
      let one = h a (Memᴰ.head refl) in
      let others = joined-least l (λ b m. h b (Memᴰ.tail m)) in
      omega (arith, mul-suc k (length l), length-append (f a) (joined (map f l)))

  pub joined-most : (l : List A) → ((a : A) → a ∈ l → length (f a) ≤ k) → length (joined (map f l)) ≤ k * length l
  joined-most [] h = omega (arith, mul-zero k)
  joined-most (a ∷ l) h =
      let one = h a (Memᴰ.head refl) in
      let others = joined-most l (λ b m. h b (Memᴰ.tail m)) in
      omega (arith, mul-suc k (length l), length-append (f a) (joined (map f l)))

pub joined-more : {A : Type 0} (ls : List (List A)) (m : List A) → joined (ls ++ (m ∷ [])) ≡ joined ls ++ m
joined-more [] m = append-nil m
joined-more (k ∷ ls) m = ap (λ l. k ++ l) (joined-more ls m) ∙ sym (append_assoc k (joined ls) m)

pub joined-out : {A : Type 0} {a : A} (ls : List (List A)) → a ∈ joined ls → (l : List A) × (l ∈ ls) × (a ∈ l)
joined-out [] m = absurd (Memᴰ.not-nil m)
joined-out (l ∷ ls) m = ⊎_elim (λ i. (l, Memᴰ.head refl, i)) (λ i. let w = joined-out ls i in (w.0, Memᴰ.tail w.1, w.2)) (Memᴰ.append_cases l m)

pub joined_in : {A : Type 0} {a : A} (l : List A) (ls : List (List A)) → l ∈ ls → a ∈ l → a ∈ joined ls
joined_in {a = a} l (m ∷ ls) (Memᴰ.head e) i = Memᴰ.append_left (joined ls) (subst (λ k. a ∈ k) e i)
joined_in l (m ∷ ls) (Memᴰ.tail j) i = Memᴰ.append_right m (joined_in l ls j i)
joined_in {A = A} {a = a} l [] x'' i = elim x'' [ ]
