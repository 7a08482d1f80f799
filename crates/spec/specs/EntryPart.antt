-- An entry's own part of the lent bytes.
use Rattle.std.specs.Prelude.{◌≡◌, List, [], ℕ, ◌+◌, ◌<◌}
use Rattle.std.specs.Borrow.{Bor}
use Rattle.spec.specs.Contents.{entries_in, offset_at, part_at}
use Rattle.spec.specs.Refusals.{Loads}

-- Lent bytes: `ref_ptr` is where they lie, a block of memory and a place in it, and `now` what they are.
abbrev pub Lent : Type 0
Lent = Bor (List ℕ)

-- "part of the lent bytes, without a copy": it lies in the book's own memory, `from` bytes after its start, and holds these bytes.
pub record LiesIn (book : Lent) (from : ℕ) (bytes : List ℕ) (part : Lent) : Type 0 where
  pub block : part.ref_ptr.0 ≡ book.ref_ptr.0
  pub place : part.ref_ptr.1 ≡ book.ref_ptr.1 + from
  pub holds : part.now ≡ bytes

-- "Asked for an entry, the book yields that entry's own part of the lent bytes, without a copy; for an entry above n + 1, or a book that 2 to 5 turn down,
-- it yields the empty part at the book's start." Entries are numbered from 0, so n + 1 is the last.
pub record EntryPart (book : Lent) (i : ℕ) (part : Lent) : Type 0 where
  pub own : Loads book.now → i < entries_in book.now → LiesIn book (offset_at book.now i) (part_at book.now i) part
  pub none : (Loads book.now → i < entries_in book.now → ⊥) → LiesIn book 0 [] part
