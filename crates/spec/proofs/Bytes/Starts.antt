-- Where parts begin that are laid out one after the other, and what is left of contents and parts from one on.
use mathlib.Core.Path.{◌≡◌, refl}
use mathlib.Core.Option.{some}
use mathlib.Core.List.{List, [], ◌∷◌, ◌++◌, map, append_assoc}
use Prim.Native.Nat.{ℕ, zero, suc, ◌+◌, ◌*◌, ◌≤◌}
use native.Mathlib.Omega.{arith}
use lib.ListN.{length, drop, length-append}
use lib.Seq.{drop_at}
use Rattle.spec.specs.Summaries.{place, joined}
use Rattle.spec.specs.BookLayout.{StampedBody, contents_from}
use Rattle.spec.proofs.Lists.Places.{nothing}

-- The bytes of an entry's body, as a part.
abbrev pub body_of : StampedBody → List ℕ
body_of e = e.body

module _ {A : Type 0} (write : A → List ℕ) where
  -- Where part i begins, if part 0 begins at `at`.
  abbrev pub start_of : ℕ → List A → ℕ → ℕ
  start_of at l zero = at
  start_of at [] (suc i) = at
  start_of at (a ∷ l) (suc i) = start_of (at + length (write a)) l i

  -- The next begins where it ends.
  pub start-next : (at : ℕ) (l : List A) (i : ℕ) (a : A) → place l (suc i) ≡ some a → start_of at l (suc i) ≡ start_of at l i + length (write a)
  start-next at [] i a p = nothing p
  start-next at (b ∷ l) zero a p = let same : b ≡ a = cc in rw same
  start-next at (b ∷ l) (suc i) a p = start-next (at + length (write b)) l i a p

  pub start-within : (at : ℕ) (l : List A) (i : ℕ) → start_of at l i ≤ at + length (joined (map write l))
  start-within at l zero = omega arith
  start-within at [] (suc i) = omega arith
  start-within at (a ∷ l) (suc i) = omega (arith, start-within (at + length (write a)) l i, length-append (write a) (joined (map write l)))

  -- The last ends with the parts.
  pub start-end : (at : ℕ) (l : List A) → start_of at l (length l) ≡ at + length (joined (map write l))
  start-end at [] = omega arith
  start-end at (a ∷ l) = omega (arith, start-end (at + length (write a)) l, length-append (write a) (joined (map write l)))

  -- "without gaps"
  pub drop-parts : (front : List ℕ) (at : ℕ) → length front ≡ at → (l : List A) (i : ℕ) → drop (start_of at l i) (front ++ joined (map write l)) ≡ joined (map write (drop i l))
  drop-parts front at h l zero = drop_at front (joined (map write l)) at h
  drop-parts front at h [] (suc i) = drop_at front [] at h
  drop-parts front at h (a ∷ l) (suc i) =
      rw (← append_assoc front (write a) (joined (map write l))) (drop-parts (front ++ write a) (at + length (write a)) (omega (arith, length-append front (write a))) l i)

-- "entries of 12 bytes"
pub drop-contents : (at : ℕ) (es : List StampedBody) (rest : List ℕ) (i : ℕ) → i ≤ length es → drop (12 * i) (contents_from at es ++ rest) ≡ contents_from (start_of body_of at es i) (drop i es) ++ rest
drop-contents at es rest zero h = refl
drop-contents at [] rest (suc i) h = absurd (omega arith)
drop-contents at (e ∷ es) rest (suc i) h =
    let twelve : 12 * suc i ≡ suc (suc (suc (suc (suc (suc (suc (suc (suc (suc (suc (suc (12 * i)))))))))))) = omega arith in
    rw twelve (drop-contents (at + length e.body) es rest i (omega arith))
