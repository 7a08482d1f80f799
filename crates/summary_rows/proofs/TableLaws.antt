-- The table of summary rows: at the start, past a summary that is left out, past one that is admitted, at the end, and where there are too many.
use mathlib.Core.Path.{◌≡◌, refl, sym, ap, ap₂, ◌∙◌}
use mathlib.Core.Option.{some, none}
use mathlib.Core.List.{List, [], ◌++◌, append_assoc}
use Prim.Native.Nat.{ℕ, suc, ◌+◌, ◌*◌, ◌-◌, ◌<◌, ◌≤◌}
use native.Mathlib.Omega.{arith}
use lib.ListN.{length, take, drop, length-append}
use lib.Seq.{length-take-le, take_all, take_at, take-append-le, take-append-add, drop-append-add, drop-drop}
use Rattle.std.specs.Prelude.{Option, Some, None}
use Rattle.spec.specs.Words.{Term, Subgoal, Rule}
use Rattle.spec.specs.Summaries.{Summaries, summary}
use Rattle.spec.specs.Order.{RowBefore}
use Rattle.spec.specs.Table.{most_rows}
use Rattle.spec.proofs.Decided.Sound.{AllSafe}
use Rattle.spec.proofs.Lists.Enumerate.{Enumerates}
use Rattle.spec.proofs.Decided.Rows.{all_rows}
use Rattle.codes.specs.Code.{term_code, codes_of}
use Rattle.codes.proofs.Padded.{codes-length, codes-append}
use Rattle.summary_rows.specs.RowsAfter.{RowsAfter}
use Rattle.summary_rows.specs.Tables.{RowTo, TableTo}
use Rattle.summary_rows.proofs.AllRows.{rows_none, rows-skip, rows_more, rows_all, rows-front}

module _ (s : Summaries) (q : Rule ℕ) (before : List ℕ) where
  pub table_none : TableTo s q 0 before before 0
  table_none = record { rows = []; all = rows_none s q; counted = refl; few = omega arith; codes = refl }

  pub table-skip : (n : ℕ) (out : List ℕ) (count : ℕ) → summary s (suc n) ≡ none → TableTo s q n before out count → TableTo s q (suc n) before out count
  table-skip n out count e t = record { rows = t.rows; all = rows-skip s q n t.rows e t.all; counted = t.counted; few = t.few; codes = t.codes }

  module _ (n : ℕ) (out : List ℕ) (count : ℕ) (t : TableTo s q n before out count) where
    long : length (codes_of term_code t.rows) ≡ 9 * count
    long = omega (arith, codes-length term_code t.rows, t.counted)

    kept : take (9 * count) out ≡ codes_of term_code t.rows
    kept = ap (take (9 * count)) t.codes ∙ take_at (codes_of term_code t.rows) (drop (9 * count) before) (9 * count) long

    behind : (m : ℕ) → count ≤ m → drop (9 * m) out ≡ drop (9 * m) before
    behind m h =
        let k : 9 * m ≡ length (codes_of term_code t.rows) + 9 * (m - count) = omega (arith, long) in
        let l : 9 * count + 9 * (m - count) ≡ 9 * m = omega arith in
        ap₂ drop k t.codes ∙ drop-append-add (codes_of term_code t.rows) (drop (9 * count) before) (9 * (m - count)) ∙ drop-drop (9 * (m - count)) (9 * count) before ∙ ap (λ i. drop i before) l

    -- rows written behind them
    more-codes : (l : List (Subgoal (Term ℕ))) (m : ℕ) → count ≤ m → take (9 * count) out ++ (codes_of term_code l ++ drop (9 * m) out) ≡ codes_of term_code (t.rows ++ l) ++ drop (9 * m) before
    more-codes l m h =
        ap₂ (λ x y. x ++ (codes_of term_code l ++ y)) kept (behind m h)
        ∙ sym (append_assoc (codes_of term_code t.rows) (codes_of term_code l) (drop (9 * m) before))
        ∙ ap (λ x. x ++ drop (9 * m) before) (sym (codes-append term_code t.rows l))

    module _ (v : Rule ℕ) (e : summary s (suc n) ≡ some v) (after : List ℕ) where
      both : {r : Option ℕ} (a : RowsAfter (suc n) v q count out after r) → Enumerates (RowTo s q (suc n)) RowBefore (t.rows ++ a.rows)
      both a = rows_more s q n v t.rows a.rows e t.all a.all

      pub table_more : (m : ℕ) → RowsAfter (suc n) v q count out after (Some m) → TableTo s q (suc n) before after m
      table_more m a = record {
        rows = t.rows ++ a.rows;
        all = both a;
        counted = omega (arith, a.count.0, t.counted, length-append t.rows a.rows);
        few = a.count.1;
        codes = a.codes ∙ ap (λ l. take (9 * count) out ++ (codes_of term_code l ++ drop (9 * (count + length l)) out)) taken ∙ ap (λ k. take (9 * count) out ++ (codes_of term_code a.rows ++ drop (9 * k) out)) (sym a.count.0) ∙ more-codes a.rows m (omega (arith, a.count.0));
      }
        where
          taken : take (most_rows - count) a.rows ≡ a.rows
          taken = take_all (most_rows - count) a.rows (omega (arith, a.count.0, a.count.1))

      -- "more than 64 summary rows": the first 64 stand in the table
      module _ (safe : AllSafe s) (a : RowsAfter (suc n) v q count out after None) where
        later : (l : List (Subgoal (Term ℕ))) × (all_rows s q ≡ (t.rows ++ a.rows) ++ l)
        later = rows-front s q safe (suc n) (t.rows ++ a.rows) (both a)

        pub table-over : most_rows < length (all_rows s q)
        table-over = omega (arith, a.count, ap length later.1, length-append (t.rows ++ a.rows) later.0, length-append t.rows a.rows, t.counted)

        full : count + length (take (most_rows - count) a.rows) ≡ most_rows
        full = omega (arith, length-take-le (most_rows - count) a.rows (omega (arith, a.count)), t.few)

        first_rows : take most_rows (all_rows s q) ≡ t.rows ++ take (most_rows - count) a.rows
        first_rows =
            let n : most_rows ≡ length t.rows + (most_rows - count) = omega (arith, t.counted, t.few) in
            ap₂ take n (later.1 ∙ append_assoc t.rows a.rows later.0)
            ∙ take-append-add t.rows (a.rows ++ later.0) (most_rows - count)
            ∙ ap (λ l. t.rows ++ l) (take-append-le (most_rows - count) a.rows later.0 (omega (arith, a.count)))

        pub over-codes : after ≡ codes_of term_code (take most_rows (all_rows s q)) ++ drop (9 * most_rows) before
        over-codes =
            a.codes
            ∙ ap (λ m. take (9 * count) out ++ (codes_of term_code (take (most_rows - count) a.rows) ++ drop (9 * m) out)) full
            ∙ more-codes (take (most_rows - count) a.rows) most_rows t.few
            ∙ ap (λ l. codes_of term_code l ++ drop (9 * most_rows) before) (sym first_rows)

  pub table-all : AllSafe s → (out : List ℕ) (count : ℕ) → TableTo s q (length s) before out count → (count ≡ length (all_rows s q)) × (length (all_rows s q) ≤ most_rows) × (out ≡ codes_of term_code (all_rows s q) ++ drop (9 * count) before)
  table-all safe out count t =
      let same = rows_all s q safe t.rows t.all in
      (t.counted ∙ ap length same, omega (arith, t.counted, t.few, ap length same), t.codes ∙ ap (λ l. codes_of term_code l ++ drop (9 * count) before) same)
