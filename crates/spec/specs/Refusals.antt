-- The refusal table's rows 2 to 8, each in the table's words, and their order.
use Rattle.std.specs.Prelude.{◌⊎◌, List, ℕ, zero, suc, ◌<◌, ◌≤◌, length}
use Rattle.spec.specs.Words.{Rule, Safe, DistinctVariables}
use Rattle.spec.specs.declared.Reason.{Reason}
use Rattle.spec.specs.RuleLayout.{Layout}
use Rattle.spec.specs.BookLayout.{most_summaries, question_most, summary_most}
use Rattle.spec.specs.Contents.{count, entries_in, part_at, NoGaps, RightRelations}

-- "The longest sound book has 25,040 bytes"
unfoldable pub longest : ℕ
longest = 25040

-- "book below 2 or above 25,040 bytes"
abbrev pub Fault2 : List ℕ → Type 0
Fault2 book = (length book < 2) ⊎ (longest < length book)

-- "n above 64"
abbrev pub Fault3 : List ℕ → Type 0
Fault3 book = most_summaries < count book

-- "book ends inside the contents, or offsets and lengths break the rule of no gaps"
abbrev pub Fault4 : List ℕ → Type 0
Fault4 book = NoGaps book → ⊥

-- "relations: stamp not 0, length or an arity out of range"
abbrev pub Fault5 : List ℕ → Type 0
Fault5 book = RightRelations book → ⊥

-- What the contents give: the book passes 2 to 5.
pub record Loads (book : List ℕ) : Type 0 where
  pub size : Fault2 book → ⊥
  pub few : count book ≤ most_summaries
  pub no_gaps : NoGaps book
  pub relations : RightRelations book

-- How many subgoals the rule of an entry may have: entry 1 is the question, the others are summaries.
abbrev pub most_at : ℕ → ℕ
most_at zero = question_most
most_at (suc zero) = question_most
most_at (suc (suc i)) = summary_most

-- The entry's body is the layout of this rule, within its bounds.
abbrev pub Reads : List ℕ → ℕ → Rule ℕ → Type 0
Reads book i r = Layout (part_at book 0) (most_at i) (part_at book i) r

-- "a rule breaks its layout: ends early, bytes over, a count, relation, tag or variable out of range": it is the layout of no rule within the bounds
abbrev pub Fault6 : List ℕ → ℕ → Type 0
Fault6 book i = (r : Rule ℕ) → Reads book i r → ⊥

-- "a rule isn't safe"
abbrev pub Fault7 : List ℕ → ℕ → Type 0
Fault7 book i = (r : Rule ℕ) × Reads book i r × (Safe r → ⊥)

-- "a summary's head holds a constant or a variable twice"
abbrev pub Fault8 : List ℕ → ℕ → Type 0
Fault8 book i = (1 < i) × ((r : Rule ℕ) × Reads book i r × (DistinctVariables r.head → ⊥))

-- An entry that none of 6, 7, 8 turns down.
pub record SoundEntry (book : List ℕ) (i : ℕ) : Type 0 where
  pub rule : Rule ℕ
  pub reads : Reads book i rule
  pub safe : Safe rule
  pub plain : 1 < i → DistinctVariables rule.head

-- "entry by entry": entry i is a rule's (the relations are entry 0), and those before it are sound.
pub record Reached (book : List ℕ) (i : ℕ) : Type 0 where
  pub loads : Loads book
  pub rule : 1 ≤ i
  pub within : i < entries_in book
  pub before : (j : ℕ) → 1 ≤ j → j < i → SoundEntry book j

-- "A refusal returns number and place": 0 is the place of what is not said of one rule ..
abbrev pub of_book : ℕ → Reason
of_book k = record { number = k; place = 0 }

-- .. and a faulty rule's place is its entry
abbrev pub of_entry : ℕ → ℕ → Reason
of_entry k i = record { number = k; place = i }

-- "Order: 1 to 5, then entry by entry 6, 7, 8": the refusal of a book.
pub data Refusal (book : List ℕ) : Reason → Type 0 where
  two : Fault2 book → Refusal book (of_book 2)
  three : (Fault2 book → ⊥) → Fault3 book → Refusal book (of_book 3)
  four : (Fault2 book → ⊥) → (Fault3 book → ⊥) → Fault4 book → Refusal book (of_book 4)
  five : (Fault2 book → ⊥) → (Fault3 book → ⊥) → NoGaps book → Fault5 book → Refusal book (of_book 5)
  six : {i : ℕ} → Reached book i → Fault6 book i → Refusal book (of_entry 6 i)
  seven : {i : ℕ} → Reached book i → Fault7 book i → Refusal book (of_entry 7 i)
  eight : {i : ℕ} → Reached book i → ((r : Rule ℕ) → Reads book i r → Safe r) → Fault8 book i → Refusal book (of_entry 8 i)

-- A book that nothing turns down.
pub record Passes (book : List ℕ) : Type 0 where
  pub loads : Loads book
  pub sound : (i : ℕ) → 1 ≤ i → i < entries_in book → SoundEntry book i
