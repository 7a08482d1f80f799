-- What is written of lists one after the other, list by list: one form for codes, widths, numbers and marks.
use mathlib.Core.Path.{◌≡◌, refl, sym, ap, ap₂, ◌∙◌}
use mathlib.Core.List.{List, [], ◌∷◌, ◌++◌, append_assoc, append-nil}
use Prim.Native.Nat.{ℕ, suc, ◌+◌, ◌*◌}
use native.Mathlib.Nat.{mul-add}
use native.Mathlib.Omega.{arith}
use lib.ListN.{length, replicate, length-append}
use Rattle.spec.specs.Words.{Term, Subgoal}
use Rattle.spec.specs.Summaries.{Summaries, in_place, uses, joined}
use Rattle.spec.proofs.Lists.Counted.{counted}
use Rattle.choice_theory.specs.Placed.{owners}
use Rattle.codes.specs.Code.{codes_of, widths_of}
use Rattle.codes.proofs.Padded.{codes-append}
use Rattle.search_meaning.specs.Uses.{end_of, ends_of}
use Rattle.book_codes.specs.Insides.{insides}

-- Lists are numbered from u on; `one` says what is written of a list with its number.
abbrev pub spread : {A : Type 0} → (ℕ → List A → List ℕ) → ℕ → List (List A) → List ℕ
spread one u [] = []
spread one u (m ∷ ls) = one u m ++ spread one (suc u) ls

module _ {A : Type 0} (one : ℕ → List A → List ℕ) where
  -- one list more
  pub spread-more : (u : ℕ) (ls : List (List A)) (m : List A) → spread one u (ls ++ (m ∷ [])) ≡ spread one u ls ++ one (u + length ls) m
  spread-more u [] m = let e : u ≡ u + 0 = omega arith in append-nil (one u m) ∙ ap (λ v. one v m) e
  spread-more u (k ∷ ls) m =
      let e : suc u + length ls ≡ u + suc (length ls) = omega arith in
      ap (λ l. one u k ++ l) (spread-more (suc u) ls m ∙ ap (λ v. spread one (suc u) ls ++ one v m) e) ∙ sym (append_assoc (one u k) (spread one (suc u) ls) (one (u + suc (length ls)) m))

  -- so many for each element
  pub spread-long : (size : ℕ) → ((u : ℕ) (m : List A) → length (one u m) ≡ size * length m) → (u : ℕ) (ls : List (List A)) → length (spread one u ls) ≡ size * length (joined ls)
  spread-long size each u [] = omega arith
  spread-long size each u (m ∷ ls) =
      length-append (one u m) (spread one (suc u) ls)
      ∙ ap₂ ◌+◌ (each u m) (spread-long size each (suc u) ls) ∙ sym (mul-add size (length m) (length (joined ls))) ∙ ap (λ k. size * k) (sym (length-append m (joined ls)))

widths-append : {A : Type 0} (l m : List (Subgoal A)) → widths_of (l ++ m) ≡ widths_of l ++ widths_of m
widths-append [] m = refl
widths-append (g ∷ l) m = ap (◌∷◌ (length g.terms)) (widths-append l m)

-- What is written of one list: codes, widths, its number, places, and the mark of the end.
abbrev pub codes_each : {A : Type 0} → (A → ℕ) → ℕ → List (Subgoal A) → List ℕ
codes_each code u m = codes_of code m

abbrev pub widths_each : {A : Type 0} → ℕ → List (Subgoal A) → List ℕ
widths_each u m = widths_of m

abbrev pub own_each : {A : Type 0} → ℕ → List A → List ℕ
own_each u m = replicate (length m) u

abbrev pub inside_each : {A : Type 0} → ℕ → List A → List ℕ
inside_each u m = counted 0 (length m)

abbrev pub end_each : {A : Type 0} → ℕ → List A → List ℕ
end_each u m = end_of (length m)

module _ {A : Type 0} where
  pub codes-spread : (code : A → ℕ) (u : ℕ) (ls : List (List (Subgoal A))) → spread (codes_each code) u ls ≡ codes_of code (joined ls)
  codes-spread code u [] = refl
  codes-spread code u (m ∷ ls) = ap (λ w. codes_of code m ++ w) (codes-spread code (suc u) ls) ∙ sym (codes-append code m (joined ls))

  pub widths-spread : (u : ℕ) (ls : List (List (Subgoal A))) → spread widths_each u ls ≡ widths_of (joined ls)
  widths-spread u [] = refl
  widths-spread u (m ∷ ls) = ap (λ w. widths_of m ++ w) (widths-spread (suc u) ls) ∙ sym (widths-append m (joined ls))

  pub owners-spread : (u : ℕ) (ls : List (List A)) → spread own_each u ls ≡ owners u ls
  owners-spread u [] = refl
  owners-spread u (m ∷ ls) = ap (λ w. replicate (length m) u ++ w) (owners-spread (suc u) ls)

  pub insides-spread : (u : ℕ) (ls : List (List A)) → spread inside_each u ls ≡ insides ls
  insides-spread u [] = refl
  insides-spread u (m ∷ ls) = ap (λ w. counted 0 (length m) ++ w) (insides-spread (suc u) ls)

  pub ends-spread : (u : ℕ) (ls : List (List A)) → spread end_each u ls ≡ ends_of ls
  ends-spread u [] = refl
  ends-spread u (m ∷ ls) = ap (λ w. end_of (length m) ++ w) (ends-spread (suc u) ls)

-- one row more
pub uses-more : (s : Summaries) (u : ℕ) (l : List (Subgoal (Term ℕ))) (g : Subgoal (Term ℕ)) → uses s u (l ++ (g ∷ [])) ≡ uses s u l ++ (in_place s (u + length l) g ∷ [])
uses-more s u [] g = let e : u ≡ u + 0 = omega arith in ap (λ v. in_place s v g ∷ []) e
uses-more s u (h ∷ l) g =
    let e : suc u + length l ≡ u + suc (length l) = omega arith in
    ap (◌∷◌ (in_place s u h)) (uses-more s (suc u) l g ∙ ap (λ v. uses s (suc u) l ++ (in_place s v g ∷ [])) e)
