-- One row's use against those of all rows, one after the other.
use mathlib.Core.Path.{◌≡◌, sym, ap, ap₂, ◌∙◌, subst}
use mathlib.Core.Bool.{Bool, true, false}
use mathlib.Core.Logic.{◌↔◌, ⊎_elim}
use mathlib.Core.List.{List, [], ◌++◌, append-nil}
use Prim.Native.Nat.{ℕ, ◌+◌, ◌*◌, ◌-◌, ◌<◌, ◌≤◌}
use native.Mathlib.Omega.{arith}
use native.Mathlib.Decide.{dec_lt}
use lib.ListN.{length, get_or, take, drop, take-append-drop}
use lib.Seq.{drop-nil}
use Rattle.spec.specs.Summaries.{Summaries, uses, joined}
use Rattle.spec.specs.Given.{at_front}
use Rattle.spec.proofs.Decided.Rows.{RowList}
use Rattle.choice_theory.specs.Dominates.{Dominates}
use Rattle.codes.specs.Code.{own_code, codes_of}
use Rattle.codes.proofs.Padded.{codes-length}
use Rattle.book_codes.specs.Insides.{starts}
use Rattle.book_codes.proofs.Beginnings.{starts-long}
use Rattle.book_codes.proofs.Read.{UsePart, use-part}
use Rattle.bits.specs.Sets.{Has, with}
use Rattle.bits.proofs.Laws.{has-none, with-new, with-old, with_cases}
use Rattle.search_meaning.proofs.Owners.{uses-long}
use Rattle.row_choice.specs.Dominators.{Pair, PairNeeds, PairSays, Against, AgainstNeeds, AgainstSays}

-- The codes between where row d's use begins and where the next does.
abbrev pub part_of : List ℕ → List ℕ → ℕ → List ℕ
part_of target begins d = take (9 * get_or begins (d + 1) 0 - 9 * get_or begins d 0) (drop (9 * get_or begins d 0) target)

-- Of the rows before d, just those that dominate are in the set.
pub record RowsCompared (source widths target begins : List ℕ) (n d set : ℕ) : Type 0 where
  pub by : (s : Summaries) (rows : RowList) (r : ℕ) → Against s rows r source widths target begins n → (x : ℕ) → Has set x ↔ ((x < d) × Dominates s rows x r)

module _ {source widths target begins : List ℕ} {n : ℕ} where
  module _ {s : Summaries} {rows : RowList} {r : ℕ} (a : Against s rows r source widths target begins n) where
    starts-front : begins ≡ at_front (starts 0 (uses s 0 rows)) begins
    starts-front =
        let long : length (starts 0 (uses s 0 rows)) ≡ length rows + 1 = starts-long 0 (uses s 0 rows) ∙ ap (λ k. k + 1) (uses-long s 0 rows) in
        sym (take-append-drop (length rows + 1) begins) ∙ ap₂ (λ l k. l ++ drop k begins) a.all.starts (sym long)

    codes-front : target ≡ at_front (codes_of own_code (joined (uses s 0 rows))) []
    codes-front =
        let all = codes_of own_code (joined (uses s 0 rows)) in
        a.all.codes ∙ sym (append-nil all) ∙ ap (λ l. all ++ l) (sym (drop-nil (length all)))

    target-long : length target ≡ 9 * length (joined (uses s 0 rows))
    target-long = ap length a.all.codes ∙ codes-length own_code (joined (uses s 0 rows))

    module _ (d : ℕ) (h : d < n) where
      use-at : UsePart s rows own_code target d (get_or begins d 0) (get_or begins (d + 1) 0)
      use-at = use-part s rows own_code [] target begins begins codes-front starts-front d (let c = a.count in omega arith)

      pair-at : Pair s rows d r source widths (part_of target begins d)
      pair-at = record { sound = a.sound; under = a.under; over = (let c = a.count in omega arith); codes = use-at.codes }

  module _ (a : AgainstNeeds source widths target begins n) where
    module _ (d : ℕ) (h : d < n) where
      pub in_order : get_or begins d 0 ≤ get_or begins (d + 1) 0
      in_order = omega (arith, (use-at a.is d h).rises)

      pub part-inside : 9 * get_or begins (d + 1) 0 ≤ length target
      part-inside = omega (arith, (use-at a.is d h).within, target-long a.is)

      pub some_pair : PairNeeds source widths (part_of target begins d)
      some_pair = record { summaries = a.summaries; rows = a.rows; d = d; r = a.r; is = pair-at a.is d h }

  pub passed-starts : RowsCompared source widths target begins n 0 0
  passed-starts = record { by = λ s rows r a x. (λ h. absurd (has-none x h), λ h. absurd (omega (arith, h.0))) }

  module _ {d set : ℕ} (h : d < n) (p : RowsCompared source widths target begins n d set) where
    pub passed-adds : {answer : Bool} {next : ℕ} → answer ≡ true → PairSays source widths (part_of target begins d) answer → next ≡ with set d → RowsCompared source widths target begins n (d + 1) next
    passed-adds e t new = subst (RowsCompared source widths target begins n (d + 1)) (sym new) record { by = by }
      where
        by : (s : Summaries) (rows : RowList) (r : ℕ) → Against s rows r source widths target begins n → (x : ℕ) → Has (with set d) x ↔ ((x < d + 1) × Dominates s rows x r)
        by s rows r a x = (there, back (dec_lt x d))
          where
            there : Has (with set d) x → (x < d + 1) × Dominates s rows x r
            there m =
                ⊎_elim
                (λ o. let w = (p.by s rows r a x).0 o in (omega arith, w.1))
                (λ q. (omega arith, subst (λ k. Dominates s rows k r) (sym q) ((t.exactly s rows d r (pair-at a d h)).0 e)))
                (with_cases set d x m)

            back : Dec (x < d) → (x < d + 1) × Dominates s rows x r → Has (with set d) x
            back (yes l) w = with-old set d x ((p.by s rows r a x).1 (l, w.1))
            back (no l) w = let q : d ≡ x = omega (arith, w.0) in subst (Has (with set d)) q (with-new set d)

    pub passed-skips : {answer : Bool} {next : ℕ} → answer ≡ false → PairSays source widths (part_of target begins d) answer → next ≡ set → RowsCompared source widths target begins n (d + 1) next
    passed-skips {answer} e t new = subst (RowsCompared source widths target begins n (d + 1)) (sym new) record { by = by }
      where
        by : (s : Summaries) (rows : RowList) (r : ℕ) → Against s rows r source widths target begins n → (x : ℕ) → Has set x ↔ ((x < d + 1) × Dominates s rows x r)
        by s rows r a x = (λ m. let w = (p.by s rows r a x).0 m in (omega arith, w.1), back (dec_lt x d))
          where
            back : Dec (x < d) → (x < d + 1) × Dominates s rows x r → Has set x
            back (yes l) w = (p.by s rows r a x).1 (l, w.1)
            back (no l) w =
                let q : x ≡ d = omega (arith, w.0) in
                let told : answer ≡ true = (t.exactly s rows d r (pair-at a d h)).1 (subst (λ k. Dominates s rows k r) q w.1) in
                let z : ◌≡◌ {A = ℕ} 0 1 = cc in
                absurd (omega arith)

  pub passed-ends : {d set : ℕ} → d ≤ n → n ≤ d → RowsCompared source widths target begins n d set → AgainstSays source widths target begins n set
  passed-ends {d} u v p = record { by = λ s rows r a. record { exactly = λ x. let w = p.by s rows r a x in let c = a.count in (λ m. let k = w.0 m in (omega arith, k.1), λ k. w.1 (omega arith, k.1)) } }
