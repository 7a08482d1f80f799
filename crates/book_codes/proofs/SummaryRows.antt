-- Summary rows are rows whose uses can be given.
use mathlib.Core.Path.{◌≡◌, sym, ap, ◌∙◌}
use mathlib.Core.List.{List}
use Prim.Native.Nat.{ℕ, ◌*◌}
use lib.ListN.{length, take, length-map}
use Rattle.spec.specs.Words.{◌∈◌, Term, con, Subgoal, becomes}
use Rattle.spec.specs.Summaries.{SummaryRow, or_empty}
use Rattle.spec.specs.Book.{Book, admitted_of}
use Rattle.spec.specs.BookLayout.{SoundBook}
use Rattle.outcomes.proofs.Bounds.{book-bounds, rows-bounds}
use Rattle.codes.specs.Code.{term_code, codes_of}
use Rattle.book_codes.specs.RowsGiven.{RowsOf}

pub summary-rows : {book rows : List ℕ} {n : ℕ} (b : Book) (l : List (Subgoal (Term ℕ))) → SoundBook book b → ((g : Subgoal (Term ℕ)) → g ∈ l → SummaryRow (admitted_of b) b.question g)
    → length l ≡ n → take (9 * n) rows ≡ codes_of term_code l → RowsOf book rows n b l
summary-rows b l sound rows count codes = record {
  sound = sound;
  within = rows-bounds b.arities (admitted_of b) b.question (book-bounds b sound.value) l rows;
  long = λ g m. let y = rows g m in
      ap length (sym y.yields.gives) ∙ length-map y.rule.head (becomes con y.yields.value) ∙ sym (ap (λ o. length (or_empty o).head) y.admitted);
  count = count;
  codes = codes;
}
