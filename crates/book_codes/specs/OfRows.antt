-- What is said of a book, of rows' codes and of how many rows there are, of the three together.
use Rattle.std.specs.Prelude.{List, ℕ}
use Rattle.book_codes.specs.declared.uses.BookRows.{BookRows}

abbrev pub of_rows : {A : Type 1} → (List ℕ → List ℕ → ℕ → A) → BookRows → A
of_rows said r = said r.book.now r.codes.now r.count
