-- What is promised of the lengths of the summaries' heads, of every value of the book.
use Rattle.std.specs.Prelude.{◌≡◌, List, ℕ, ◌≤◌, get_or}
use Rattle.spec.specs.Book.{Book}
use Rattle.spec.specs.BookLayout.{SoundBook}
use Rattle.spec.proofs.Bytes.HeadLengths.{head_lengths}

-- the length of one summary's head
pub record HeadAt (book : List ℕ) (i n : ℕ) : Type 0 where
  pub is : (b : Book) → SoundBook book b → n ≡ get_or (head_lengths b) i 0

-- Those of the first k summaries stand in a table; "Summaries are numbered from 1", and number 0 has the length 0.
pub record HeadsTo (book : List ℕ) (k : ℕ) (table : List ℕ) : Type 0 where
  pub is : (b : Book) → SoundBook book b → (i : ℕ) → i ≤ k → get_or table i 0 ≡ get_or (head_lengths b) i 0

-- Those of all summaries, and nothing behind them.
pub record HeadsNeeds (book lengths : List ℕ) : Type 0 where
  pub is : (b : Book) → SoundBook book b → lengths ≡ head_lengths b
