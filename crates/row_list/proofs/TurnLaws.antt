-- The turn of one summary: what it adds to the table.
use mathlib.Core.Path.{◌≡◌, refl, sym, ◌∙◌, subst}
use mathlib.Core.Bool.{Bool, true, false}
use mathlib.Core.Option.{some, none, none-ne-some, some-injective}
use mathlib.Core.List.{List}
use Prim.Native.Nat.{ℕ, zero, suc, ◌+◌, ◌*◌, ◌≤◌}
use native.Mathlib.Omega.{arith}
use Rattle.std.specs.Prelude.{Option, Some}
use Rattle.spec.specs.Words.{Rule}
use Rattle.spec.specs.Summaries.{place, summary}
use Rattle.spec.specs.Book.{Summary, Book, admitted_of}
use Rattle.spec.specs.BookLayout.{SoundBook}
use Rattle.spec.specs.Contents.{part_at}
use Rattle.spec.specs.Table.{most_rows}
use Rattle.spec.proofs.Bytes.BookPasses.{book-loads, question-reads, summary-reads}
use Rattle.spec.proofs.Lists.Counted.{place_in}
use Rattle.admission.specs.Admission.{HasSummary, AdmissionSays}
use Rattle.admission.proofs.Standing.{standing}
use Rattle.summary_rows.specs.RowsAfter.{RowsAfter}
use Rattle.row_list.specs.Tasks.{SummaryIs}
use Rattle.row_list.specs.Placings.{SummaryTask, SummaryTaskNeeds, PlacedRows}
use Rattle.row_list.specs.Turns.{TargetNeeds, TurnSays}

module _ {book : List ℕ} {i : ℕ} (has : HasSummary book i) where
  summary-is : (b : Book) → SoundBook book b → (u : Summary) → place b.summaries i ≡ some u → SummaryIs (part_at book 0) (part_at book (i + 1)) u.rule
  summary-is b s u p = go i has.from p
    where
      go : (k : ℕ) → 1 ≤ k → place b.summaries k ≡ some u → SummaryIs (part_at book 0) (part_at book (k + 1)) u.rule
      go zero h e = absurd (omega arith)
      go (suc k) h e =
          let one : suc k + 1 ≡ suc (suc k) = omega arith in
          rw one record { layout = summary-reads s (suc k) u e; plain = (s.value.summaries u (place_in b.summaries (suc k) e)).plain }

  module _ {target own : List ℕ} (onto : TargetNeeds book target own) {relations body : List ℕ} (first : relations ≡ part_at book 0) (part : body ≡ part_at book (i + 1)) where
    placing-of : (b : Book) → SoundBook book b → (u : Summary) → place b.summaries i ≡ some u → SummaryTask relations body target own u.rule b.question
    placing-of b s u p = rw (first, part) record {
      known = (book-loads s).relations.arities;
      summary = summary-is b s u p;
      safe = (s.value.summaries u (place_in b.summaries i p)).safe;
      question = (question-reads s).within;
      onto = onto.is b s;
    }

    pub some-placing : {found area : ℕ} → found ≤ most_rows → 9 * most_rows ≤ area → SummaryTaskNeeds relations body target own found area
    some-placing few room =
        let u = standing has has.value has.sound in
        record { rule = u.0.rule; question = has.value.question; is = placing-of has.value has.sound u.0 u.1; few = few; room = room }

    pub turn_in : {found : ℕ} {before after : List ℕ} {says : Bool} {r : Option ℕ} → AdmissionSays book i says → says ≡ true → PlacedRows relations body target own i found before after r → TurnSays book i found before after r
    turn_in {found} {before} {after} {says} {r} a t p = record { rows = rows; left = left }
      where
        admitted : (b : Book) (s : SoundBook book b) → summary (admitted_of b) i ≡ some (standing has b s).0.rule
        admitted b s = rw t at (a.is b s (standing has b s).0 (standing has b s).1)

        rows : (b : Book) → SoundBook book b → (v : Rule ℕ) → summary (admitted_of b) i ≡ some v → RowsAfter i v b.question found before after r
        rows b s v e =
            let u = standing has b s in
            subst (λ x. RowsAfter i x b.question found before after r) (some-injective u.0.rule v (sym (admitted b s) ∙ e)) (p.rows u.0.rule b.question (placing-of b s u.0 u.1))

        left : (b : Book) → SoundBook book b → summary (admitted_of b) i ≡ none → (r ≡ Some found) × (after ≡ before)
        left b s e = absurd (none-ne-some (standing has b s).0.rule (sym e ∙ admitted b s))

  pub turn-out : (found : ℕ) (before : List ℕ) (says : Bool) → AdmissionSays book i says → says ≡ false → TurnSays book i found before before (Some found)
  turn-out found before says a f = record { rows = λ b s v e. absurd (none-ne-some v (sym (out b s) ∙ e)); left = λ b s e. (refl, refl) }
    where
      out : (b : Book) (s : SoundBook book b) → summary (admitted_of b) i ≡ none
      out b s = rw f at (a.is b s (standing has b s).0 (standing has b s).1)
