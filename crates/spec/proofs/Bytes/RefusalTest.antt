-- The number and place of a book's refusal, or none, as a test: where it tells a refusal the book has it, and where it tells none nothing turns the book down.
use mathlib.Core.Path.{◌≡◌, refl}
use mathlib.Core.Bool.{Bool, true, false, cond}
use mathlib.Core.Option.{Option, some, none}
use mathlib.Core.List.{List}
use Prim.Native.Nat.{ℕ, zero, suc, ◌+◌, ◌<◌, ◌≤◌}
use native.Mathlib.Omega.{arith}
use lib.Dec.{T, not_T, leb, leb→le, nleb→lt, ltb, ltb→lt, lt→ltb}
use Rattle.spec.specs.Words.{Rule}
use Rattle.spec.specs.Numbers.{Bytes}
use Rattle.spec.specs.BookLayout.{entries, most_summaries}
use Rattle.spec.specs.Contents.{count, entries_in, part_at}
use Rattle.spec.specs.declared.Reason.{Reason}
use Rattle.spec.specs.Refusals.{Loads, most_at, of_book, of_entry, Reads, SoundEntry, Reached, Refusal, two, three, four, five, six, seven, eight, Passes}
use Rattle.spec.proofs.Decided.Equal.{eq_number}
use Rattle.spec.proofs.Decided.Safety.{safe, safe-sound, safe-complete}
use Rattle.spec.proofs.Bytes.RuleReading.{Read, got, bad, read_rule}
use Rattle.spec.proofs.Bytes.RuleLaws.{layout-read, no-layout}
use Rattle.spec.proofs.Bytes.BookUnique.{reads-unique}
use Rattle.spec.proofs.Bytes.Refused.{part_bytes, one-more-sound}
use Rattle.spec.proofs.Bytes.SoundTest.{distinct, distinct-sound, distinct-complete}
use Rattle.spec.proofs.Bytes.ContentsTest.{sized, sized-sound, sized-not, no_gaps, gaps-sound, gaps-complete, right_relations, right-sound, right-complete}

-- what is said of the one or of the other
picked : {O : Type 0} (Said : O → Type 0) (b : Bool) (x y : O) → (T b → Said x) → ((T b → ⊥) → Said y) → Said (cond b x y)
picked Said true x y f g = f tt
picked Said false x y f g = g (λ h. h)

module _ (book : List ℕ) where
  -- 6, 7, 8
  abbrev plain_tried : ℕ → Rule ℕ → Option ℕ
  plain_tried i r = cond (ltb 1 i) (cond (distinct r.head) none (some 8)) none

  abbrev read_tried : ℕ → Read (Rule ℕ) → Option ℕ
  read_tried i (bad f) = some 6
  read_tried i (got r rest) = cond (safe eq_number r) (plain_tried i r) (some 7)

  abbrev entry_tried : ℕ → Option ℕ
  entry_tried i = read_tried i (read_rule (part_at book 0) (most_at i) (part_at book i))

  abbrev or_further : ℕ → Option ℕ → Option Reason → Option Reason
  or_further i none further = further
  or_further i (some k) further = some (of_entry k i)

  -- so many entries from i on
  abbrev entries_tried : ℕ → ℕ → Option Reason
  entries_tried zero i = none
  entries_tried (suc left) i = or_further i (entry_tried i) (entries_tried left (suc i))

  -- "Order: 1 to 5, then entry by entry 6, 7, 8"
  abbrev from5 : Option Reason
  from5 = cond (right_relations book) (entries_tried (suc (count book)) 1) (some (of_book 5))

  abbrev from4 : Option Reason
  from4 = cond (no_gaps book) from5 (some (of_book 4))

  abbrev from3 : Option Reason
  from3 = cond (leb (count book) most_summaries) from4 (some (of_book 3))

  abbrev pub refusal : Option Reason
  refusal = cond (sized book) from3 (some (of_book 2))

  -- what it tells
  abbrev pub Says : Option Reason → Type 0
  Says none = Passes book
  Says (some r) = Refusal book r

  module _ (bytes : Bytes book) where
    abbrev EntrySays : ℕ → Option ℕ → Type 0
    EntrySays i none = SoundEntry book i
    EntrySays i (some k) = Refusal book (of_entry k i)

    entry-says : (i : ℕ) → Reached book i → EntrySays i (entry_tried i)
    entry-says i reached = go (read_rule (part_at book 0) (most_at i) (part_at book i)) refl
      where
        go : (z : Read (Rule ℕ)) → read_rule (part_at book 0) (most_at i) (part_at book i) ≡ z → EntrySays i (read_tried i z)
        go (bad f) e = six reached (no-layout (part_at book 0) (most_at i) (part_at book i) f e)
        go (got r rest) e = picked (EntrySays i) (safe eq_number r) (plain_tried i r) (some 7) is-safe (λ n. seven reached (r, reads, λ h. n (safe-complete eq_number r h)))
          where
            reads : Reads book i r
            reads = layout-read (part_at book 0) (most_at i) (part_at book i) r rest (part_bytes book bytes i) e

            is-safe : T (safe eq_number r) → EntrySays i (plain_tried i r)
            is-safe s = picked (EntrySays i) (ltb 1 i) (cond (distinct r.head) none (some 8)) none is-summary (λ n. record { rule = r; reads = reads; safe = safe-sound eq_number r s; plain = λ h. absurd (n (lt→ltb 1 i h)) })
              where
                is-summary : T (ltb 1 i) → EntrySays i (cond (distinct r.head) none (some 8))
                is-summary l =
                    picked (EntrySays i) (distinct r.head) none (some 8) (λ d. record { rule = r; reads = reads; safe = safe-sound eq_number r s; plain = λ h. distinct-sound r.head d })
                    (λ n. eight reached (λ r' reads'. rw (reads-unique book i r' r reads' reads) (safe-sound eq_number r s)) (ltb→lt 1 i l, (r, reads, λ d. n (distinct-complete r.head d))))

    entries-say : Loads book → (left i : ℕ) → i + left ≡ entries_in book → 1 ≤ i → ((j : ℕ) → 1 ≤ j → j < i → SoundEntry book j) → Says (entries_tried left i)
    entries-say loads zero i e least before = record { loads = loads; sound = λ j l h. before j l (omega arith) }
    entries-say loads (suc left) i e least before =
        go (entries-say loads left (suc i) (omega arith) (omega arith)) (entry_tried i) (entry-says i (record { loads = loads; rule = least; within = omega arith; before = before }))
      where
        go : (((j : ℕ) → 1 ≤ j → j < suc i → SoundEntry book j) → Says (entries_tried left (suc i))) → (o : Option ℕ) → EntrySays i o → Says (or_further i o (entries_tried left (suc i)))
        go further (some k) r = r
        go further none s = further (one-more-sound before s)

    pub refusal-says : Says refusal
    refusal-says = picked Says (sized book) from3 (some (of_book 2)) past-2 (λ n. two (sized-not book n))
      where
        past-4 : T (sized book) → T (leb (count book) most_summaries) → T (no_gaps book) → Says from5
        past-4 s f g = picked Says (right_relations book) (entries_tried (suc (count book)) 1) (some (of_book 5)) past-5 (λ n. five (sized-sound book s) (λ m. omega (arith, leb→le (count book) most_summaries f)) (gaps-sound book g) (λ r. n (right-complete book r)))
          where
            past-5 : T (right_relations book) → Says (entries_tried (suc (count book)) 1)
            past-5 r = unfold entries_in entries in entries-say (record { size = sized-sound book s; few = leb→le (count book) most_summaries f; no_gaps = gaps-sound book g; relations = right-sound book r }) (suc (count book)) 1 (omega arith) (omega arith) (λ j l h. absurd (omega arith))

        past-3 : T (sized book) → T (leb (count book) most_summaries) → Says from4
        past-3 s f = picked Says (no_gaps book) from5 (some (of_book 4)) (past-4 s f) (λ n. four (sized-sound book s) (λ m. omega (arith, leb→le (count book) most_summaries f)) (λ g. n (gaps-complete book g)))

        past-2 : T (sized book) → Says from3
        past-2 s = picked Says (leb (count book) most_summaries) from4 (some (of_book 3)) (past-3 s) (λ n. three (sized-sound book s) (nleb→lt (count book) most_summaries (not_T (leb (count book) most_summaries) n)))
