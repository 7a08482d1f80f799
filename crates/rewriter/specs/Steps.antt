-- What is known between the steps of rewriting a book.
use Rattle.std.specs.Prelude.{List, ℕ}
use Rattle.spec.specs.Book.{Book}
use Rattle.spec.specs.BookLayout.{SoundBook}
use Rattle.spec.specs.Table.{Fault1}
use Rattle.row_choice.specs.Asked.{ChoiceNeeds}

-- A sound book, and the areas are long enough.
pub record SoundNeeds (book : List ℕ) (answer witness : ℕ) : Type 0 where
  pub value : Book
  pub sound : SoundBook book value
  pub room : Fault1 answer witness → ⊥

-- Its summary rows, at most 64.
pub record ListedNeeds (book rows : List ℕ) (n answer witness : ℕ) : Type 0 where
  pub asked : ChoiceNeeds book rows n
  pub room : Fault1 answer witness → ⊥
