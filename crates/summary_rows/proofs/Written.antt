-- One row's codes more in the table.
use mathlib.Core.Path.{◌≡◌, sym, ap, ap₂, ◌∙◌}
use mathlib.Core.List.{List, [], ◌∷◌, ◌++◌, map, append_assoc}
use Prim.Native.Nat.{ℕ, suc, ◌+◌, ◌*◌, ◌≤◌}
use native.Mathlib.Omega.{arith}
use lib.ListN.{length, take, drop, length-append, length-drop}
use lib.Seq.{take_all, take_at, drop-append-add, drop-drop, length-take-le, paste}
use Rattle.spec.specs.Words.{Term, Subgoal}
use Rattle.codes.specs.Code.{term_code, subgoal_codes, codes_of}
use Rattle.codes.proofs.Padded.{padded-length, codes-length, codes-more}

-- the table: what stood before the found rows' end, then the rows of l, then what stood behind them
abbrev pub table : List ℕ → ℕ → List (Subgoal (Term ℕ)) → ℕ → List ℕ
table before found l count = take (9 * found) before ++ (codes_of term_code l ++ drop (9 * count) before)

module _ (before : List ℕ) (found : ℕ) (l : List (Subgoal (Term ℕ))) (count : ℕ) (counted : count ≡ found + length l) (room : 9 * count ≤ length before) where
  abbrev front : List ℕ
  front = take (9 * found) before ++ codes_of term_code l

  front_long : length front ≡ 9 * count
  front_long = length-append (take (9 * found) before) (codes_of term_code l) ∙ omega (arith, length-take-le (9 * found) before (omega arith), codes-length term_code l)

  fronted : table before found l count ≡ front ++ drop (9 * count) before
  fronted = sym (append_assoc (take (9 * found) before) (codes_of term_code l) (drop (9 * count) before))

  pub table-long : length (table before found l count) ≡ length before
  table-long = ap length fronted ∙ length-append front (drop (9 * count) before) ∙ omega (arith, front_long, length-drop (9 * count) before)

  pub table_more : (g : Subgoal (Term ℕ)) → paste (table before found l count) (9 * count) (subgoal_codes term_code g) 9 ≡ table before found (l ++ (g ∷ [])) (count + 1)
  table_more g =
      let s : List ℕ = subgoal_codes term_code g in
      let after : List ℕ = drop (9 * (count + 1)) before in
      let kept : take (9 * count) (table before found l count) ≡ front = ap (take (9 * count)) fronted ∙ take_at front (drop (9 * count) before) (9 * count) front_long in
      let new : take 9 s ≡ s = take_all 9 s (omega (arith, ap suc (padded-length 8 (map term_code g.terms)))) in
      let n : 9 * count + 9 ≡ length front + 9 = omega (arith, front_long) in
      let m : 9 * count + 9 ≡ 9 * (count + 1) = omega arith in
      let behind : drop (9 * count + 9) (table before found l count) ≡ after =
      ap (drop (9 * count + 9)) fronted ∙ ap (λ k. drop k (front ++ drop (9 * count) before)) n ∙ drop-append-add front (drop (9 * count) before) 9 ∙ drop-drop 9 (9 * count) before ∙ ap (λ k. drop k before) m in
      ap₂ (λ x y. (x ++ take 9 s) ++ y) kept behind ∙ ap (λ x. (front ++ x) ++ after) new
      ∙ ap (λ x. x ++ after) (append_assoc (take (9 * found) before) (codes_of term_code l) s ∙ ap (λ x. take (9 * found) before ++ x) (sym (codes-more term_code l g)))
      ∙ append_assoc (take (9 * found) before) (codes_of term_code (l ++ (g ∷ []))) after
