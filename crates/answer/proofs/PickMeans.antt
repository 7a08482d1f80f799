-- The codes picked are those of the rows picked, and the widths are theirs.
use mathlib.Core.Path.{◌≡◌, refl, sym, ap, ap₂, ◌∙◌}
use mathlib.Core.List.Memᴰ
use mathlib.Core.List.{List, [], ◌∷◌, ◌++◌, map, append_assoc}
use Prim.Native.Nat.{ℕ, zero, suc, ◌+◌, ◌*◌, ◌<◌, ◌≤◌}
use native.Mathlib.Omega.{arith}
use lib.ListN.{length, take, drop}
use lib.Seq.{drop-drop, drop_at, take_at}
use borrow.Author.Tests.{ne_eqb}
use Rattle.spec.specs.Words.{◌∈◌, Term, Subgoal}
use Rattle.spec.proofs.Decided.Rows.{RowList}
use Rattle.spec.proofs.Lists.At.{get_or-in}
use Rattle.choice_theory.specs.Numbered.{nothing, row_at, rows_at}
use Rattle.codes.specs.Code.{term_code, padded, subgoal_codes, codes_of, widths_of}
use Rattle.codes.proofs.Padded.{nine, code-no-end}
use Rattle.answer.specs.Picked.{row_codes, width_in, picked_codes, picked_widths}

-- row r's nine codes, in the codes of all rows
row-codes : (l : RowList) (rest : List ℕ) (r : ℕ) → r < length l → row_codes (codes_of term_code l ++ rest) r ≡ subgoal_codes term_code (row_at l r)
row-codes [] rest r h = absurd (omega arith)
row-codes (g ∷ l) rest zero h = ap (take 9) (append_assoc (subgoal_codes term_code g) (codes_of term_code l) rest) ∙ take_at (subgoal_codes term_code g) (codes_of term_code l ++ rest) 9 (nine term_code g)
row-codes (g ∷ l) rest (suc r) h =
    let p : 9 * suc r ≡ 9 + 9 * r = omega arith in
    let all : List ℕ = codes_of term_code (g ∷ l) ++ rest in
    ap (λ k. take 9 (drop k all)) p ∙ ap (take 9) (sym (drop-drop (9 * r) 9 all))
    ∙ ap (λ w. take 9 (drop (9 * r) w)) (ap (drop 9) (append_assoc (subgoal_codes term_code g) (codes_of term_code l) rest) ∙ drop_at (subgoal_codes term_code g) (codes_of term_code l ++ rest) 9 (nine term_code g))
    ∙ row-codes l rest r (omega arith)

-- codes of terms, padded with 1
width-means : (n : ℕ) (ts : List (Term ℕ)) → length ts ≤ n → width_in (padded n (map term_code ts)) ≡ length ts
width-means zero [] h = refl
width-means zero (t ∷ ts) h = absurd (omega arith)
width-means (suc n) [] h = refl
width-means (suc n) (t ∷ ts) h = rw (ne_eqb (term_code t) 1 (code-no-end t)) (omega (arith, width-means n ts (omega arith)))

module _ (l : RowList) (rest : List ℕ) where
  -- the rows that the numbers name
  pub picked-means : (rows : List ℕ) → ((r : ℕ) → r ∈ rows → r < length l) → picked_codes (codes_of term_code l ++ rest) rows ≡ codes_of term_code (rows_at l rows)
  picked-means [] f = refl
  picked-means (r ∷ rows) f = ap₂ ◌++◌ (row-codes l rest r (f r (Memᴰ.head refl))) (picked-means rows (λ q m. f q (Memᴰ.tail m)))

  pub widths-mean : ((g : Subgoal (Term ℕ)) → g ∈ l → length g.terms ≤ 8) → (rows : List ℕ) → ((r : ℕ) → r ∈ rows → r < length l) → picked_widths (codes_of term_code l ++ rest) rows ≡ widths_of (rows_at l rows)
  widths-mean narrow [] f = refl
  widths-mean narrow (r ∷ rows) f = ap₂ ◌∷◌ (ap (λ w. width_in (drop 1 w)) (row-codes l rest r h) ∙ width-means 8 (row_at l r).terms (narrow (row_at l r) (get_or-in nothing l r h))) (widths-mean narrow rows (λ q m. f q (Memᴰ.tail m)))
    where
      h : r < length l
      h = f r (Memᴰ.head refl)
