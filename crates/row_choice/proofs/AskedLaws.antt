-- What is asked of all summary rows: they are rows whose uses can be given, of a sound book.
use mathlib.Core.Path.{sym, ap, ◌∙◌}
use mathlib.Core.List.{List}
use Prim.Native.Nat.{ℕ, ◌*◌, ◌≤◌}
use lib.ListN.{take}
use lib.Seq.{take_at}
use Rattle.spec.specs.Book.{Book, admitted_of}
use Rattle.spec.proofs.Decided.Rows.{all_rows, all_rows-sound}
use Rattle.codes.specs.Code.{term_code, codes_of}
use Rattle.codes.proofs.Padded.{codes-length}
use Rattle.book_codes.specs.Question.{SomeSound}
use Rattle.book_codes.specs.RowsGiven.{RowsOf, RowsGiven}
use Rattle.book_codes.proofs.SummaryRows.{summary-rows}
use Rattle.row_choice.specs.Asked.{ChoiceNeedsOf, ChoiceNeeds}

module _ {book rows : List ℕ} {n : ℕ} where
  pub asked-rows : {b : Book} → ChoiceNeedsOf book rows n b → RowsOf book rows n b (all_rows (admitted_of b) b.question)
  asked-rows {b} a =
      let all = all_rows (admitted_of b) b.question in
      summary-rows b all a.sound (all_rows-sound (admitted_of b) b.question) (sym a.count) (ap (take (9 * n)) a.codes ∙ take_at (codes_of term_code all) a.rest (9 * n) (codes-length term_code all ∙ ap (λ k. 9 * k) (sym a.count)))

  module _ (a : ChoiceNeeds book rows n) where
    pub asked-given : RowsGiven book rows n
    asked-given = record { value = a.value; list = all_rows (admitted_of a.value) a.value.question; is = asked-rows a.is }

    pub asked-few : n ≤ 64
    asked-few = a.is.few

    pub asked-sound : SomeSound book
    asked-sound = record { value = a.value; sound = a.is.sound }
