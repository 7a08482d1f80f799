-- What stands in a book's contents, read off its bytes.
use Rattle.std.specs.Prelude.{◌≡◌, List, ℕ, zero, suc, ◌+◌, ◌*◌, ◌<◌, ◌≤◌, length, take, drop}
use Rattle.spec.specs.Numbers.{number_at}
use Rattle.spec.specs.BookLayout.{entries, contents_end, Arities}

-- "Bytes 0 and 1: the count n of summaries"
unfoldable pub count : List ℕ → ℕ
count book = number_at 2 book 0

-- How many entries the book has.
unfoldable pub entries_in : List ℕ → ℕ
entries_in book = entries (count book)

-- "entries of 12 bytes: offset, length, stamp, four bytes each", after the count
unfoldable pub offset_at : List ℕ → ℕ → ℕ
offset_at book i = number_at 4 book (2 + 12 * i)

unfoldable pub length_at : List ℕ → ℕ → ℕ
length_at book i = number_at 4 book (6 + 12 * i)

unfoldable pub stamp_at : List ℕ → ℕ → ℕ
stamp_at book i = number_at 4 book (10 + 12 * i)

-- Where the body of entry i has to begin: "the first begins at 2 + 12 × (n + 2)", the others where the one before them ends.
abbrev pub begin_at : List ℕ → ℕ → ℕ
begin_at book zero = contents_end (count book)
begin_at book (suc i) = offset_at book i + length_at book i

-- "Bodies stand without gaps in entry order; the first begins at 2 + 12 × (n + 2), the last ends the book."
pub record NoGaps (book : List ℕ) : Type 0 where
  pub room : contents_end (count book) ≤ length book
  pub begins : (i : ℕ) → i < entries_in book → offset_at book i ≡ begin_at book i
  pub ends : begin_at book (entries_in book) ≡ length book

-- The entry's own part of the book.
unfoldable pub part_at : List ℕ → ℕ → List ℕ
part_at book i = take (length_at book i) (drop (offset_at book i) book)

-- "Relations (stamp 0)": entry 0, whose body is the arities.
pub record RightRelations (book : List ℕ) : Type 0 where
  pub stamp : stamp_at book 0 ≡ 0
  pub arities : Arities (part_at book 0)
