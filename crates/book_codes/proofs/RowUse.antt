-- A row's summary stands in the book, and its use is one that the builders take.
use mathlib.Core.Path.{◌≡◌, sym, ap, subst, ◌∙◌}
use mathlib.Core.Option.{some}
use mathlib.Core.List.{List, [], ◌∷◌, map}
use Prim.Native.Nat.{ℕ, suc, ◌+◌, ◌<◌, ◌≤◌}
use native.Mathlib.Omega.{arith}
use lib.ListN.{length, get_or, take, drop, length-take, length-map}
use lib.Seq.{get_or-take, take-take}
use Rattle.spec.specs.Words.{Term, con, Subgoal, Rule, DistinctVariables, each, becomes}
use Rattle.spec.specs.Summaries.{place, or_empty, definition, Own, in_use, in_place}
use Rattle.spec.specs.Book.{Summary, Book, admitted_of}
use Rattle.spec.specs.RuleLayout.{Layout}
use Rattle.spec.specs.BookLayout.{SoundSummary}
use Rattle.spec.specs.Contents.{entries_in, part_at}
use Rattle.spec.specs.Refusals.{Loads, most_at}
use Rattle.spec.specs.Given.{at_front}
use Rattle.spec.proofs.Lists.Counted.{place-within, place_in}
use Rattle.spec.proofs.Bytes.Within.{entries-are, entries-some, loads-few}
use Rattle.spec.proofs.Bytes.BookStands.{book-entries}
use Rattle.spec.proofs.Bytes.BookPasses.{book-loads, summary-reads}
use Rattle.containment.proofs.Sound.{admitted-place}
use Rattle.codes.specs.Code.{term_code, padded, widths_of}
use Rattle.codes.proofs.Padded.{padded-length, padded-front}
use Rattle.rule_codes.specs.Laid.{Laid, LaidOver, UseOf, UseOver}
use Rattle.rule_codes.specs.Promises.{GoalCount, BodyWidths}
use Rattle.rule_codes.specs.Uses.{UseCodes}
use Rattle.rule_codes.proofs.CodeLaws.{widths-each}
use Rattle.rule_codes.proofs.RuleLaid.{goals-counted, rule-there}
use Rattle.book_codes.specs.RowGiven.{RowOf, RowGiven}
use Rattle.book_codes.specs.OneUse.{OneUse, OneCount, OneWidths}

-- codes behind the first, taken from nine at the front
behind : (row : List ℕ) (k x : ℕ) (l : List ℕ) → k ≤ 8 → take 9 row ≡ x ∷ l → take k (drop 1 row) ≡ take k l
behind [] k x l h e = absurd (let z : ◌≡◌ {A = ℕ} 0 1 = cc in omega arith)
behind (y ∷ row) k x l h e = let same : take 8 row ≡ l = cc in sym (take-take k 8 row h) ∙ ap (take k) same

module _ {book row : List ℕ} {b : Book} {g : Subgoal (Term ℕ)} (w : RowOf book row b g) where
  abbrev rule : Rule ℕ
  rule = w.over.rule

  found : (m : Summary) × (place b.summaries g.relation ≡ some m) × (m.rule ≡ rule)
  found = admitted-place b.need b.summaries g.relation rule w.over.admitted

  sound : SoundSummary b.arities found.0
  sound = w.sound.value.summaries found.0 (place_in b.summaries g.relation found.1)

  plain : DistinctVariables rule.head
  plain = subst (λ (r : Rule ℕ). DistinctVariables r.head) found.2 sound.plain

  layout : Layout (part_at book 0) (most_at (suc g.relation)) (part_at book (suc g.relation)) rule
  layout = subst (Layout (part_at book 0) (most_at (suc g.relation)) (part_at book (suc g.relation))) found.2 (summary-reads w.sound g.relation found.0 found.1)

  -- "summary 1 to 8" subgoals
  goals : (1 ≤ length rule.body) × (length rule.body ≤ 8)
  goals = subst (λ (r : Rule ℕ). (1 ≤ length r.body) × (length r.body ≤ 8)) found.2 (sound.within.some, sound.within.few)

  pub row-nine : 9 ≤ length row
  row-nine =
      let e = ap length w.codes in
      let n = padded-length 8 (map term_code g.terms) in
      omega (arith, length-take 9 row)

  pub row-relation : get_or row 0 0 ≡ g.relation
  row-relation = sym (get_or-take 9 row 0 0 (omega arith)) ∙ ap (λ l. get_or l 0 0) w.codes

  pub row-entry : get_or row 0 0 + 1 < entries_in book
  row-entry = let p = place-within b.summaries g.relation found.0 found.1 in omega (arith, row-relation, book-entries w.sound, entries-are (length b.summaries))

  pub row-loads : Loads book
  row-loads = book-loads w.sound

  pub row-layout : (arities bytes : List ℕ) → bytes ≡ part_at book (get_or row 0 0 + 1) → arities ≡ part_at book 0 → Layout arities (most_at (suc g.relation)) bytes rule
  row-layout arities bytes p q = let next : get_or row 0 0 + 1 ≡ suc g.relation = omega (arith, row-relation) in rw (p, q, next) layout

  pub use-of : (arities bytes terms : List ℕ) → bytes ≡ part_at book (get_or row 0 0 + 1) → arities ≡ part_at book 0 → terms ≡ drop 1 row → UseOf arities bytes terms rule g.terms
  use-of arities bytes terms p q r =
      let short : length g.terms ≤ 8 = let n = w.over.long in let m = layout.within.short in omega arith in
      let many : length (map term_code g.terms) ≡ length g.terms = length-map g.terms term_code in
      record {
        most = most_at (suc g.relation);
        layout = row-layout arities bytes p q;
        plain = plain;
        long = w.over.long;
        within = w.within;
        codes =
            ap (take (length g.terms)) r ∙ behind row (length g.terms) g.relation (padded 8 (map term_code g.terms)) short w.codes
            ∙ ap (λ k. take k (padded 8 (map term_code g.terms))) (sym many) ∙ padded-front 8 (map term_code g.terms) (omega arith);
      }

  module _ (u : ℕ) where
    pub use-count : length (in_place (admitted_of b) u g) ≡ length rule.body
    use-count = length-map (definition (admitted_of b) g.relation).body (each (becomes con (in_use (admitted_of b) u g))) ∙ ap (λ d. length (or_empty d).body) w.over.admitted

    pub use-same-widths : widths_of (in_place (admitted_of b) u g) ≡ widths_of rule.body
    use-same-widths = widths-each (becomes con (in_use (admitted_of b) u g)) (definition (admitted_of b) g.relation).body ∙ ap (λ d. widths_of (or_empty d).body) w.over.admitted

module _ {book row : List ℕ} (given : RowGiven book row) where
  pub first_part : Loads book × (0 < entries_in book)
  first_part = (row-loads given.is, omega (arith, entries-some book))

  pub summary-part : Loads book × (get_or row 0 0 + 1 < entries_in book)
  summary-part = (row-loads given.is, row-entry given.is)

  -- its number is small
  pub summary-few : get_or row 0 0 + 1 < 67
  summary-few = omega (arith, row-entry given.is, loads-few book (row-loads given.is), entries-are 64)

  pub nine-there : 9 ≤ length row
  nine-there = row-nine given.is

  module _ {arities bytes : List ℕ} (p : bytes ≡ part_at book (get_or row 0 0 + 1)) (q : arities ≡ part_at book 0) where
    pub summary-rule : ∥ LaidOver arities bytes ∥₁
    summary-rule = rule-there (row-layout given.is arities bytes p q)

    pub summary-goals : get_or bytes 1 0 ≤ 8
    summary-goals = let n = goals given.is in omega (arith, goals-counted (row-layout given.is arities bytes p q))

    pub laid : Laid bytes
    laid = record { arities = arities; most = _; rule = rule given.is; layout = row-layout given.is arities bytes p q }

    pub one-count : {n : ℕ} → GoalCount bytes n → OneCount book row n
    one-count e =
        let same = e.is arities _ (rule given.is) (row-layout given.is arities bytes p q) in
        let n = goals given.is in
        record { some = omega arith; few = omega arith; count = λ b g u w. e.is arities _ (rule w) (row-layout w arities bytes p q) ∙ sym (use-count w u) }

    pub one-widths : {before after : List ℕ} {n : ℕ} → BodyWidths arities bytes before after n → OneWidths book row before after
    one-widths {before} e = record { widths = λ b g u w. e.widths _ (rule w) (row-layout w arities bytes p q) ∙ ap (λ l. at_front l before) (sym (use-same-widths w u)) }

    module _ {terms : List ℕ} (r : terms ≡ drop 1 row) where
      pub use-over : UseOver arities bytes terms
      use-over = record { rule = rule given.is; terms = given.goal.terms; is = use-of given.is arities bytes terms p q r }

      pub one-use : {code : Term (Own ℕ) → ℕ} {u : ℕ} {before after : List ℕ} {n : ℕ} → UseCodes arities bytes terms code u before after n → OneUse book row code u before after n
      one-use {u = u} e =
          let same = e.count (rule given.is) given.goal.terms (use-of given.is arities bytes terms p q r) in
          let n = goals given.is in
          record {
            some = omega arith;
            few = omega arith;
            count = λ b g w. e.count (rule w) g.terms (use-of w arities bytes terms p q r) ∙ sym (use-count w u);
            codes = λ b g w. e.codes (rule w) (admitted_of b) g (use-of w arities bytes terms p q r) w.over.admitted;
          }
