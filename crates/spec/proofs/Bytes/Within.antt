-- What the rule of no gaps gives a reader: where the contents and the bodies lie within the book.
use mathlib.Core.Path.{◌≡◌, refl, ap, ◌∙◌}
use mathlib.Core.List.{List}
use Prim.Native.Nat.{ℕ, zero, suc, ◌+◌, ◌*◌, ◌-◌, ◌<◌, ◌≤◌}
use native.Mathlib.Omega.{arith}
use lib.ListN.{length, get_or, take, drop, length-take, length-drop}
use lib.Seq.{get_or-take, get_or-drop}
use Rattle.spec.specs.BookLayout.{entries, contents_end, most_summaries}
use Rattle.spec.specs.Contents.{count, entries_in, offset_at, length_at, begin_at, NoGaps, part_at}
use Rattle.spec.specs.Refusals.{Loads}

pub entries-are : (n : ℕ) → entries n ≡ n + 2
unfolding entries
entries-are n = refl

module _ (book : List ℕ) where
  -- The twelve bytes of each entry lie within the contents.
  pub entry-room : (i : ℕ) → contents_end (count book) ≤ length book → i < entries_in book → 14 + 12 * i ≤ length book
  unfolding contents_end entries entries_in
  entry-room i room h = omega arith

  -- Each body begins within the book. `left` counts the entries from i on: the last body ends the book, and each other ends where the next begins.
  begins-within : NoGaps book → (left i : ℕ) → i + left ≡ entries_in book → begin_at book i ≤ length book
  begins-within whole zero i e =
      let all : i ≡ entries_in book = omega arith in
      let last : begin_at book i ≡ length book = ap (begin_at book) all ∙ whole.ends in
      omega arith
  begins-within whole (suc left) i e =
      let next : offset_at book i + length_at book i ≤ length book = begins-within whole left (suc i) (omega arith) in
      let here = whole.begins i (omega arith) in
      omega arith

  -- Each body ends within the book.
  pub body-within : (i : ℕ) → NoGaps book → i < entries_in book → offset_at book i + length_at book i ≤ length book
  body-within i whole h = begins-within whole (entries_in book - suc i) (suc i) (omega arith)

  -- An entry's own part is as long as its entry says.
  pub part-long : (i : ℕ) → NoGaps book → i < entries_in book → length (part_at book i) ≡ length_at book i
  unfolding part_at
  part-long i whole h = simp (length-take, length-drop) (omega (arith, body-within i whole h))

  -- Its bytes are the book's, from the entry's offset on.
  pub part-byte : (i k : ℕ) → k < length_at book i → get_or (part_at book i) k 0 ≡ get_or book (offset_at book i + k) 0
  unfolding part_at
  part-byte i k h = rw (get_or-take, get_or-drop)

  -- The part is what `&book[offset..offset + length]` lends.
  pub part-lent : (i o x : ℕ) → o ≡ offset_at book i → x ≡ length_at book i → take (o + x - o) (drop o book) ≡ part_at book i
  unfolding part_at
  part-lent i o x e l = let many : o + x - o ≡ x = omega arith in rw (many, e, l)

  -- How many entries there are, from the count.
  pub entries-counted : (n m : ℕ) → n ≡ count book → m ≡ entries n → m ≡ entries_in book
  unfolding entries_in
  entries-counted n m c e = e ∙ ap entries c

  -- There is an entry 0, the relations, and an entry 1, the question.
  pub entries-some : 1 < entries_in book
  unfolding entries_in entries
  entries-some = omega arith

  -- The same of a book that loads, for readers that ask `load` first.
  pub loads-room : (i : ℕ) → Loads book → i < entries_in book → 14 + 12 * i ≤ length book
  loads-room i l = entry-room i l.no_gaps.room

  pub part-within : (i : ℕ) → Loads book → i < entries_in book → offset_at book i + length_at book i ≤ length book
  part-within i l = body-within i l.no_gaps

  -- A book that loads has at most 66 entries.
  pub loads-few : Loads book → entries_in book ≤ entries most_summaries
  unfolding entries_in entries
  loads-few l = omega arith
