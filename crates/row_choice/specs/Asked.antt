-- What is asked of all summary rows of a sound book, and what is promised.
use Rattle.std.specs.Prelude.{◌≡◌, List, Option, ◌++◌, ℕ, ◌≤◌, length}
use Rattle.spec.specs.Book.{Book, admitted_of}
use Rattle.spec.specs.BookLayout.{SoundBook}
use Rattle.spec.proofs.Decided.Rows.{all_rows}
use Rattle.spec.specs.Table.{most_rows}
use Rattle.codes.specs.Code.{term_code, codes_of}
use Rattle.first_shortest.specs.Chosen.{ChosenBy}
use Rattle.first_shortest.specs.declared.Chosen.{Chosen}

-- The n rows at the front are all summary rows of the book's question, at most 64.
pub record ChoiceNeedsOf (book rows : List ℕ) (n : ℕ) (b : Book) : Type 0 where
  pub sound : SoundBook book b
  pub count : n ≡ length (all_rows (admitted_of b) b.question)
  pub few : n ≤ most_rows
  pub rest : List ℕ
  pub codes : rows ≡ codes_of term_code (all_rows (admitted_of b) b.question) ++ rest

pub record ChoiceNeeds (book rows : List ℕ) (n : ℕ) : Type 0 where
  pub value : Book
  pub is : ChoiceNeedsOf book rows n value

-- The first of the shortest equivalent lists of them, or that there is none.
pub record RowChoiceSays (book rows : List ℕ) (n : ℕ) (r : Option Chosen) : Type 0 where
  pub by : (b : Book) → ChoiceNeedsOf book rows n b → ChosenBy (admitted_of b) b.question (all_rows (admitted_of b) b.question) r
