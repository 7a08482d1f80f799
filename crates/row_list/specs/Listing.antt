-- What the list of all summary rows promises.
use Rattle.std.specs.Prelude.{◌≡◌, List, ◌++◌, ℕ, ◌*◌, ◌<◌, ◌≤◌, length, take, drop, Option, Some, None}
use Rattle.spec.specs.Words.{Rule}
use Rattle.spec.specs.Summaries.{Summaries}
use Rattle.spec.specs.Book.{Book, admitted_of}
use Rattle.spec.specs.BookLayout.{SoundBook}
use Rattle.spec.specs.Table.{most_rows}
use Rattle.spec.proofs.Decided.Rows.{all_rows}
use Rattle.codes.specs.Code.{term_code, codes_of, subgoal_size}

-- Some sound book, and room for 64 rows of nine codes.
pub record ListNeeds (book : List ℕ) (area : ℕ) : Type 0 where
  pub value : Book
  pub sound : SoundBook book value
  pub room : subgoal_size * most_rows ≤ area

module _ (s : Summaries) (q : Rule ℕ) (before after : List ℕ) where
  -- There are n summary rows, at most 64, and their codes stand at the front; the codes behind them stay.
  pub record AllStand (n : ℕ) : Type 0 where
    pub count : n ≡ length (all_rows s q)
    pub few : n ≤ most_rows
    pub codes : after ≡ codes_of term_code (all_rows s q) ++ drop (subgoal_size * n) before

  -- "more than 64 summary rows": the first 64 stand at the front, and the codes behind them stay.
  pub record RowsOver : Type 0 where
    pub many : most_rows < length (all_rows s q)
    pub codes : after ≡ codes_of term_code (take most_rows (all_rows s q)) ++ drop (subgoal_size * most_rows) before

  -- how many rows there are, or none where there are too many
  abbrev pub ListedSays : Option ℕ → Type 0
  ListedSays (Some n) = AllStand n
  ListedSays None = RowsOver

pub record ListSays (book before after : List ℕ) (r : Option ℕ) : Type 0 where
  pub says : (b : Book) → SoundBook book b → ListedSays (admitted_of b) b.question before after r
