-- Which rows dominate a row, on codes: its own use as a source, the uses of all rows as targets.
use Rattle.std.specs.Prelude.{◌≡◌, Bool, true, false, ◌↔◌, List, ℕ, ◌+◌, ◌*◌, ◌/◌, ◌<◌, ◌≤◌, length, get_or, take}
use Rattle.spec.specs.Words.{Rule}
use Rattle.spec.specs.Summaries.{Summaries, in_place, uses, joined}
use Rattle.spec.specs.Book.{Book, admitted_of}
use Rattle.spec.specs.Table.{most_rows}
use Rattle.spec.proofs.Decided.Rows.{RowList}
use Rattle.choice_theory.specs.Numbered.{row_at}
use Rattle.choice_theory.specs.Dominates.{Dominates}
use Rattle.outcomes.specs.Bounds.{Bounds, RowsWithin}
use Rattle.codes.specs.Code.{own_code, kept_slot, codes_of, widths_of, subgoal_size}
use Rattle.book_codes.specs.RowsGiven.{RowsOf}
use Rattle.book_codes.specs.Insides.{starts}
use Rattle.bits.specs.Sets.{Has}

-- The rows are those of some sound book.
pub record SoundRows (s : Summaries) (rows : RowList) : Type 0 where
  pub arities : List ℕ
  pub question : Rule ℕ
  pub bounds : Bounds arities s question
  pub within : RowsWithin s rows

-- The source is row r's use; the rows' own terms stay in it.
pub record RowUseCodes (s : Summaries) (rows : RowList) (r : ℕ) (source widths : List ℕ) : Type 0 where
  pub there : r < length rows
  pub codes : source ≡ codes_of kept_slot (in_place s r (row_at rows r))
  pub counts : widths ≡ widths_of (in_place s r (row_at rows r))

-- The targets are all rows' uses, and where each begins stands in a list.
pub record AllUses (s : Summaries) (rows : RowList) (target begins : List ℕ) : Type 0 where
  pub codes : target ≡ codes_of own_code (joined (uses s 0 rows))
  pub starts : take (length rows + 1) begins ≡ starts 0 (uses s 0 rows)

-- A set of just the rows that dominate row r.
pub record Dominators (s : Summaries) (rows : RowList) (r set : ℕ) : Type 0 where
  pub exactly : (d : ℕ) → Has set d ↔ ((d < length rows) × Dominates s rows d r)

-- One pair: the source is row r's use, the target is row d's.
pub record Pair (s : Summaries) (rows : RowList) (d r : ℕ) (source widths target : List ℕ) : Type 0 where
  pub sound : SoundRows s rows
  pub under : RowUseCodes s rows r source widths
  pub over : d < length rows
  pub codes : target ≡ codes_of own_code (in_place s d (row_at rows d))

pub record PairNeeds (source widths target : List ℕ) : Type 0 where
  pub summaries : Summaries
  pub rows : RowList
  pub d : ℕ
  pub r : ℕ
  pub is : Pair summaries rows d r source widths target

-- Where the answer is no, none of the target's subgoals is of that relation.
pub record NoRelation (target : List ℕ) (relation : ℕ) (answer : Bool) : Type 0 where
  pub none : answer ≡ false → (k : ℕ) → k < length target / subgoal_size → get_or target (subgoal_size * k) 0 ≡ relation → ⊥

pub record PairSays (source widths target : List ℕ) (answer : Bool) : Type 0 where
  pub exactly : (s : Summaries) (rows : RowList) (d r : ℕ) → Pair s rows d r source widths target → (answer ≡ true) ↔ Dominates s rows d r

-- One row against all n.
pub record Against (s : Summaries) (rows : RowList) (r : ℕ) (source widths target begins : List ℕ) (n : ℕ) : Type 0 where
  pub sound : SoundRows s rows
  pub count : length rows ≡ n
  pub few : n ≤ most_rows
  pub under : RowUseCodes s rows r source widths
  pub all : AllUses s rows target begins

pub record AgainstNeeds (source widths target begins : List ℕ) (n : ℕ) : Type 0 where
  pub summaries : Summaries
  pub rows : RowList
  pub r : ℕ
  pub is : Against summaries rows r source widths target begins n

pub record AgainstSays (source widths target begins : List ℕ) (n set : ℕ) : Type 0 where
  pub by : (s : Summaries) (rows : RowList) (r : ℕ) → Against s rows r source widths target begins n → Dominators s rows r set

-- The same of rows as codes, over a book.
module _ (book rows : List ℕ) (n : ℕ) where
  pub record RowsAsTargets (target begins : List ℕ) : Type 0 where
    pub is : (b : Book) (l : RowList) → RowsOf book rows n b l → AllUses (admitted_of b) l target begins

  pub record DominatorsOf (r set : ℕ) : Type 0 where
    pub by : (b : Book) (l : RowList) → RowsOf book rows n b l → Dominators (admitted_of b) l r set
