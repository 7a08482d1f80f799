-- Every list of bytes is a sound book or has a refusal.
use mathlib.Core.Path.{◌≡◌}
use mathlib.Core.Logic.{◌⊎◌, inl, inr, ⊎_elim}
use mathlib.Core.List.{List}
use Prim.Native.Nat.{ℕ, zero, suc, ◌+◌, ◌<◌, ◌≤◌}
use native.Mathlib.Omega.{arith}
use native.Mathlib.Decide.{dec_lt, ℕ_discrete}
use lib.ListN.{length, drop}
use Rattle.spec.specs.Words.{Rule, Safe, DistinctVariables}
use Rattle.spec.specs.Book.{Book}
use Rattle.spec.specs.Numbers.{Bytes}
use Rattle.spec.specs.BookLayout.{entries, most_summaries, SoundBook}
use Rattle.spec.specs.Contents.{count, entries_in, offset_at, length_at, part_at, NoGaps, RightRelations}
use Rattle.spec.specs.declared.Reason.{Reason}
use Rattle.spec.specs.Refusals.{longest, most_at, of_book, of_entry, Fault2, Fault3, Loads, Reads, SoundEntry, Reached, Refusal, two, three, four, five, six, seven, eight, Passes}
use Rattle.spec.proofs.Bytes.NumberLaws.{bytes_take, bytes_drop}
use Rattle.spec.proofs.Bytes.RuleLaws.{layout-decided}
use Rattle.spec.proofs.Bytes.BookPasses.{book-passes}
use Rattle.spec.proofs.Bytes.BookRead.{book-of}
use Rattle.spec.proofs.Bytes.BookUnique.{reads-unique}
use Rattle.spec.proofs.Bytes.SafeDecided.{safe-decided, distinct-decided}
use Rattle.spec.proofs.Bytes.RefusedOnce.{passes-unrefused}
use Rattle.spec.proofs.Bytes.ContentsDecided.{no-gaps-decided, relations-decided}

abbrev pub SomeRefusal : List ℕ → Type 0
SomeRefusal book = (r : Reason) × Refusal book r

pub part_bytes : (book : List ℕ) → Bytes book → (i : ℕ) → Bytes (part_at book i)
unfolding part_at
part_bytes book h i = bytes_take (length_at book i) (drop (offset_at book i) book) (bytes_drop (offset_at book i) book h)

-- sound entries before i, and entry i
pub one-more-sound : {book : List ℕ} {i : ℕ} → ((j : ℕ) → 1 ≤ j → j < i → SoundEntry book j) → SoundEntry book i → (j : ℕ) → 1 ≤ j → j < suc i → SoundEntry book j
one-more-sound {i = i} before s j l h = elim (ℕ_discrete j i) [ yes same ↦ rw same s | no other ↦ before j l (omega arith) ]

module _ (book : List ℕ) (bytes : Bytes book) where
  -- "entry by entry 6, 7, 8"
  module _ (i : ℕ) (reached : Reached book i) where
    plain-or-refused : (r : Rule ℕ) → Reads book i r → Safe r → SoundEntry book i ⊎ SomeRefusal book
    plain-or-refused r reads safe = go (dec_lt 1 i) (distinct-decided r.head)
      where
        go : Dec (1 < i) → Dec (DistinctVariables r.head) → SoundEntry book i ⊎ SomeRefusal book
        go summary (yes d) = inl record { rule = r; reads = reads; safe = safe; plain = λ h. d }
        go (no question) (no f) = inl record { rule = r; reads = reads; safe = safe; plain = λ h. absurd (question h) }
        go (yes summary) (no f) = inr (of_entry 8 i, eight reached (λ r' reads'. rw (reads-unique book i r' r reads' reads) safe) (summary, (r, reads, f)))

    safe-or-refused : (r : Rule ℕ) → Reads book i r → SoundEntry book i ⊎ SomeRefusal book
    safe-or-refused r reads = go (safe-decided r)
      where
        go : Dec (Safe r) → SoundEntry book i ⊎ SomeRefusal book
        go (yes safe) = plain-or-refused r reads safe
        go (no f) = inr (of_entry 7 i, seven reached (r, reads, f))

    entry-or-refused : SoundEntry book i ⊎ SomeRefusal book
    entry-or-refused = go (layout-decided (part_at book 0) (most_at i) (part_at book i) (part_bytes book bytes i))
      where
        go : ((r : Rule ℕ) × Reads book i r) ⊎ ((r : Rule ℕ) → Reads book i r → ⊥) → SoundEntry book i ⊎ SomeRefusal book
        go (inl s) = safe-or-refused s.0 s.1
        go (inr f) = inr (of_entry 6 i, six reached f)

  -- The first entry that is not sound, if there is one; `left` entries from i on are still to be looked at.
  entries-or-refused : Loads book → (left i : ℕ) → i + left ≡ entries_in book → 1 ≤ i → ((j : ℕ) → 1 ≤ j → j < i → SoundEntry book j) → Passes book ⊎ SomeRefusal book
  entries-or-refused loads zero i e some before = inl record { loads = loads; sound = λ j l h. before j l (omega arith) }
  entries-or-refused loads (suc left) i e some before =
      go (entries-or-refused loads left (suc i) (omega arith) (omega arith)) (entry-or-refused i (record { loads = loads; rule = some; within = omega arith; before = before }))
    where
      go : (((j : ℕ) → 1 ≤ j → j < suc i → SoundEntry book j) → Passes book ⊎ SomeRefusal book) → SoundEntry book i ⊎ SomeRefusal book → Passes book ⊎ SomeRefusal book
      go further (inr x) = inr x
      go further (inl s) = further (one-more-sound before s)

  size-decided : Dec (Fault2 book)
  size-decided = go (dec_lt (length book) 2) (dec_lt longest (length book))
    where
      go : Dec (length book < 2) → Dec (longest < length book) → Dec (Fault2 book)
      go (yes short) l = yes (inl short)
      go (no f) (yes long) = yes (inr long)
      go (no f) (no g) = no (λ x. ⊎_elim f g x)

  -- "Order: 1 to 5"
  loads-or-refused : Loads book ⊎ SomeRefusal book
  loads-or-refused = go size-decided (dec_lt most_summaries (count book)) (no-gaps-decided book) (relations-decided book)
    where
      go : Dec (Fault2 book) → Dec (Fault3 book) → Dec (NoGaps book) → Dec (RightRelations book) → Loads book ⊎ SomeRefusal book
      go (yes f) m g r = inr (of_book 2, two f)
      go (no a) (yes f) g r = inr (of_book 3, three a f)
      go (no a) (no b) (no f) r = inr (of_book 4, four a b f)
      go (no a) (no b) (yes g) (no f) = inr (of_book 5, five a b g f)
      go (no a) (no b) (yes g) (yes r) = inl record { size = a; few = omega arith; no_gaps = g; relations = r }

  pub passes-or-refused : Passes book ⊎ SomeRefusal book
  passes-or-refused = go loads-or-refused
    where
      go : Loads book ⊎ SomeRefusal book → Passes book ⊎ SomeRefusal book
      go (inr x) = inr x
      go (inl loads) = unfold entries_in entries in entries-or-refused loads (suc (count book)) 1 (omega arith) (omega arith) (λ j l h. absurd (omega arith))

  -- "every list of bytes is sound or has .. one refusal"; `refused-once` says that it is no more than one, `sound-unrefused` that it is not both
  pub sound-or-refused : ((b : Book) × SoundBook book b) ⊎ SomeRefusal book
  sound-or-refused = go passes-or-refused
    where
      go : Passes book ⊎ SomeRefusal book → ((b : Book) × SoundBook book b) ⊎ SomeRefusal book
      go (inl p) = inl (book-of book bytes p)
      go (inr x) = inr x

pub sound-unrefused : {book : List ℕ} {b : Book} {r : Reason} → SoundBook book b → Refusal book r → ⊥
sound-unrefused {book} s = passes-unrefused book (book-passes s)
