-- The codes of a row, one by one, and as the codes of a subgoal over terms.
use mathlib.Core.Path.{◌≡◌, refl, sym, ap, ap₂, ◌∙◌}
use mathlib.Core.Option.{some}
use mathlib.Core.List.{List, [], ◌∷◌, ◌++◌, map, map-append}
use Prim.Native.Nat.{ℕ, zero, suc, ◌+◌, ◌*◌, ◌<◌}
use native.Mathlib.Omega.{arith}
use lib.ListN.{length, get_or, take, set, replicate, length-map}
use lib.Seq.{length-take-le, take-suc}
use Rattle.spec.proofs.Decided.Rows.{as_row}
use Rattle.spec.specs.Words.{Term, Rule}
use Rattle.spec.specs.Summaries.{place}
use Rattle.spec.proofs.Lists.At.{place-get_or}
use Rattle.codes.specs.Code.{padded, term_code, subgoal_codes}
use Rattle.codes.proofs.Padded.{padded-length}
use Rattle.task.specs.Task.{Task}
use Rattle.search_meaning.proofs.AtCodes.{nothing}
use Rattle.summary_rows.specs.RowTask.{alone, onto, TaskOf}
use Rattle.summary_rows.specs.RowCodes.{row_codes}
use Rattle.summary_rows.proofs.AtTerms.{Stand, place-front}
use Rattle.summary_rows.proofs.HeadLaws.{alone-term}

-- one code more
padded-push : (n : ℕ) (l : List ℕ) (x : ℕ) → length l < n → set (padded n l) (length l) x ≡ padded n (l ++ (x ∷ []))
padded-push zero l x h = absurd (omega arith)
padded-push (suc n) [] x h = refl
padded-push (suc n) (y ∷ l) x h = ap (λ r. y ∷ r) (padded-push n l x (omega arith))

module _ (number : ℕ) (target : List ℕ) where
  abbrev code_at : ℕ → ℕ
  code_at k = get_or target (9 * k + 1) 0

  pub row-long : (js : List ℕ) → length (row_codes number target js) ≡ 9
  unfolding row_codes
  row-long js = ap suc (padded-length 8 (map code_at js))

  pub row-start : ◌≡◌ {A = List ℕ} (number ∷ replicate 8 1) (row_codes number target [])
  unfolding row_codes
  row-start = refl

  pub row-push : (ks : List ℕ) (i k x : ℕ) → i < length ks → i < 8 → k ≡ get_or ks i 0 → x ≡ get_or target (9 * k + 1 + 0) 0 → set (row_codes number target (take i ks)) (i + 1) x ≡ row_codes number target (take (i + 1) ks)
  unfolding row_codes
  row-push ks i k x h few at is =
      let one : i + 1 ≡ suc i = omega arith in
      let zero : 9 * get_or ks i 0 + 1 + 0 ≡ 9 * get_or ks i 0 + 1 = omega arith in
      let long : i ≡ length (map code_at (take i ks)) = omega (arith, length-map (take i ks) code_at, length-take-le i ks (omega arith)) in
      let more : map code_at (take (suc i) ks) ≡ map code_at (take i ks) ++ (code_at (get_or ks i 0) ∷ []) = ap (map code_at) (take-suc ks i 0 h) ∙ map-append code_at (take i ks) (get_or ks i 0 ∷ []) in
      rw (one, is, at, zero) (ap (λ l. number ∷ l) (ap (λ n. set (padded 8 (map code_at (take i ks))) n (code_at (get_or ks i 0))) long ∙ padded-push 8 (map code_at (take i ks)) (code_at (get_or ks i 0)) (omega arith) ∙ ap (padded 8) (sym more)))

-- A row's codes are those of the terms at its places.
module _ (v q : Rule ℕ) (ts : List (Term ℕ)) (p : Task) (h : ℕ) (w : TaskOf v q ts p h) where
  code_of : (k : ℕ) (t : Term ℕ) → place ts (suc k) ≡ some t → get_or p.target (9 * k + 1) 0 ≡ term_code t
  code_of k t e =
      let g = place-get_or nothing (onto ts q) k (alone t) (place-front q.body ts k t e) in
      ap (λ l. get_or l.target (9 * k + 1) 0) w.codes ∙ alone-term term_code (onto ts q) k t g.0 g.1

  codes-of : (js : List ℕ) (row : List (Term ℕ)) → Stand ts js row → map (λ k. get_or p.target (9 * k + 1) 0) js ≡ map term_code row
  codes-of [] [] s = refl
  codes-of [] (t ∷ row) s = absurd s
  codes-of (k ∷ js) [] s = absurd s
  codes-of (k ∷ js) (t ∷ row) s = ap₂ ◌∷◌ (code_of k t s.0) (codes-of js row s.1)

  pub row-codes : (n : ℕ) (js : List ℕ) (row : List (Term ℕ)) → Stand ts js row → row_codes n p.target js ≡ subgoal_codes term_code (as_row n row)
  unfolding row_codes
  row-codes n js row s = ap (λ l. n ∷ padded 8 l) (codes-of js row s)
