-- What a walk over a rule's subgoals has made of the first few: their widths, and their codes at the front of an area.
use mathlib.Core.Path.{◌≡◌, refl, sym, ap, ap₂, ◌∙◌}
use mathlib.Core.Option.{some}
use mathlib.Core.List.{List, [], ◌∷◌, ◌++◌}
use Prim.Native.Nat.{ℕ, suc, ◌+◌, ◌*◌, ◌<◌, ◌≤◌}
use native.Mathlib.Numerals.{add-one}
use native.Mathlib.Omega.{arith}
use lib.ListN.{length, take, drop, set}
use lib.Seq.{sets, take_all, take-suc-set, length-take-le}
use Rattle.spec.specs.Words.{Term, Subgoal, Rule}
use Rattle.spec.specs.Summaries.{place}
use Rattle.spec.specs.RuleLayout.{Layout}
use Rattle.spec.specs.Given.{at_front}
use Rattle.spec.proofs.Lists.Places.{take-place}
use Rattle.codes.specs.Code.{subgoal_codes, codes_of, widths_of}
use Rattle.codes.proofs.Padded.{codes-more, widths-more, nine, codes-length}
use Rattle.rule_codes.specs.Codes.{tabled}
use Rattle.rule_codes.specs.Promises.{GoalCount, BodyCodes, BodyWidths}
use Rattle.rule_codes.proofs.Stores.{front-more}

one-more : (r : Rule ℕ) (i : ℕ) (g : Subgoal (Term ℕ)) → place r.body (suc i) ≡ some g → take (i + 1) r.body ≡ take i r.body ++ (g ∷ [])
one-more r i g p = ap (λ k. take k r.body) (add-one i) ∙ take-place r.body i g p

module _ (arities bytes : List ℕ) where
  -- The widths of the first i subgoals.
  pub record WidthsRead (i : ℕ) (widths : List ℕ) : Type 0 where
    pub is : (most : ℕ) (r : Rule ℕ) → Layout arities most bytes r → take i widths ≡ widths_of (take i r.body)

  -- The area with the codes of the first i subgoals at its front.
  pub record CodesWritten (table before : List ℕ) (i : ℕ) (after : List ℕ) : Type 0 where
    pub is : (most : ℕ) (r : Rule ℕ) → Layout arities most bytes r → after ≡ at_front (codes_of (tabled table) (take i r.body)) before

  pub widths-start : (widths : List ℕ) → WidthsRead 0 widths
  widths-start widths = record { is = λ m r l. refl }

  pub codes-start : (table before : List ℕ) → CodesWritten table before 0 before
  codes-start table before = record { is = λ m r l. refl }

module _ {arities bytes : List ℕ} {n : ℕ} (count : GoalCount bytes n) {i : ℕ} where
  pub widths-go : {widths : List ℕ} {width : ℕ} → i < length widths → WidthsRead arities bytes i widths
      → ((most : ℕ) (r : Rule ℕ) → Layout arities most bytes r → (g : Subgoal (Term ℕ)) × (place r.body (suc i) ≡ some g) × (width ≡ length g.terms)) → WidthsRead arities bytes (i + 1) (set widths i width)
  widths-go {widths} {width} h s turn = record { is = is }
    where
      is : (most : ℕ) (r : Rule ℕ) → Layout arities most bytes r → take (i + 1) (set widths i width) ≡ widths_of (take (i + 1) r.body)
      is m r l =
          let t = turn m r l in
          ap (λ k. take k (set widths i width)) (add-one i)
          ∙ take-suc-set widths i width h
          ∙ ap₂ (λ front w. front ++ (w ∷ [])) (s.is m r l) t.2
          ∙ sym (widths-more (take i r.body) t.0)
          ∙ ap widths_of (sym (one-more r i t.0 t.1))

  pub widths-end : {widths : List ℕ} (before : List ℕ) → length widths ≡ n → n ≤ i → WidthsRead arities bytes i widths → BodyWidths arities bytes before (widths ++ drop n before) n
  widths-end {widths} before long h s = record { count = λ m r l. count.is arities m r l; widths = is }
    where
      is : (most : ℕ) (r : Rule ℕ) → Layout arities most bytes r → widths ++ drop n before ≡ at_front (widths_of r.body) before
      is m r l =
          let all : widths ≡ widths_of r.body =
          sym (take_all i widths (omega arith)) ∙ s.is m r l ∙ ap widths_of (take_all i r.body (let same = count.is arities m r l in omega arith)) in
          ap₂ (λ front k. front ++ drop k before) all (sym long ∙ ap length all)

  module _ {before : List ℕ} (room : 9 * n ≤ length before) {table after : List ℕ} (s : CodesWritten arities bytes table before i after) where
    pub codes-go : {next : List ℕ} → i < n
        → ((most : ℕ) (r : Rule ℕ) → Layout arities most bytes r → (g : Subgoal (Term ℕ)) × (place r.body (suc i) ≡ some g) × (next ≡ sets after (9 * i) (subgoal_codes (tabled table) g)))
        → CodesWritten arities bytes table before (i + 1) next
    codes-go {next} h turn = record { is = is }
      where
        is : (most : ℕ) (r : Rule ℕ) → Layout arities most bytes r → next ≡ at_front (codes_of (tabled table) (take (i + 1) r.body)) before
        is m r l =
            let t = turn m r l in
            let one = subgoal_codes (tabled table) t.0 in
            let front = codes_of (tabled table) (take i r.body) in
            let same = count.is arities m r l in
            let size : length front ≡ 9 * i = omega (arith, codes-length (tabled table) (take i r.body), length-take-le i r.body (omega arith)) in
            let fits : length front + length one ≤ length before = omega (arith, nine (tabled table) t.0, room) in
            t.2
            ∙ ap₂ (λ a k. sets a k one) (s.is m r l) (sym size)
            ∙ front-more front one before fits
            ∙ ap (λ f. at_front f before) (sym (codes-more (tabled table) (take i r.body) t.0) ∙ ap (codes_of (tabled table)) (sym (one-more r i t.0 t.1)))

    pub codes-end : n ≤ i → BodyCodes arities bytes (tabled table) before after n
    codes-end h = record {
      count = λ m r l. count.is arities m r l;
      codes = λ m r l. s.is m r l ∙ ap (λ gs. at_front (codes_of (tabled table) gs) before) (take_all i r.body (let same = count.is arities m r l in omega arith));
    }
