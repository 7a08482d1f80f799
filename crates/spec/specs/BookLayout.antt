-- A book's value as bytes, and the bounds of a book's value.
use Rattle.std.specs.Prelude.{◌≡◌, List, [], ◌∷◌, ◌++◌, map, ℕ, ◌+◌, ◌*◌, ◌<◌, ◌≤◌, length}
use Rattle.spec.specs.Words.{◌∈◌, Rule, Safe, DistinctVariables}
use Rattle.spec.specs.Summaries.{joined}
use Rattle.spec.specs.Book.{Summary, Book}
use Rattle.spec.specs.Numbers.{little}
use Rattle.spec.specs.RuleLayout.{rule_bytes, RuleWithin}

-- "the count n of summaries, 0 to 64"
abbrev pub most_summaries : ℕ
most_summaries = 64

-- "Then n + 2 entries": how many, of n summaries
unfoldable pub entries : ℕ → ℕ
entries n = n + 2

-- "the first begins at 2 + 12 × (n + 2)": two bytes of count, and "entries of 12 bytes"
unfoldable pub contents_end : ℕ → ℕ
contents_end n = 2 + 12 * entries n

-- "question 1 to 12, summary 1 to 8": how many subgoals the rule of an entry may have; "entry 1 the question"
abbrev pub question_most : ℕ
question_most = 12

abbrev pub summary_most : ℕ
summary_most = 8

-- An entry before it has a place: its stamp and its body.
pub record StampedBody : Type 0 where
  pub stamp : ℕ
  pub body : List ℕ

abbrev pub entry_of : Summary → StampedBody
entry_of s = record { stamp = s.stamp; body = rule_bytes s.rule }

-- "StampedBody 0 is the relations (stamp 0), entry 1 the question, entry i + 1 summary i." "StampedBody 1 carries the need r, each summary its stamp s."
abbrev pub entries_of : Book → List StampedBody
entries_of b = record { stamp = 0; body = b.arities } ∷ record { stamp = b.need; body = rule_bytes b.question } ∷ map entry_of b.summaries

-- "offset, length, stamp, four bytes each"; "Bodies stand without gaps in entry order": the first at `at`
abbrev pub contents_from : ℕ → List StampedBody → List ℕ
contents_from at [] = []
contents_from at (e ∷ es) = little 4 at ++ (little 4 (length e.body) ++ (little 4 e.stamp ++ contents_from (at + length e.body) es))

abbrev pub bodies : List StampedBody → List (List ℕ)
bodies es = map (λ e. e.body) es

-- "Contents first, then the bodies."
unfoldable pub book_bytes : Book → List ℕ
book_bytes b = little 2 (length b.summaries) ++ (contents_from (contents_end (length b.summaries)) (entries_of b) ++ joined (bodies (entries_of b)))

-- "Relations: 1 to 32 bytes, each an arity 1 to 8."
abbrev pub most_relations : ℕ
most_relations = 32

abbrev pub most_arity : ℕ
most_arity = 8

pub record Arities (arities : List ℕ) : Type 0 where
  pub some : 1 ≤ length arities
  pub few : length arities ≤ most_relations
  pub range : (a : ℕ) → a ∈ arities → (1 ≤ a) × (a ≤ most_arity)

-- A rule of an entry that is within the bounds, safe and, where it is a summary, with a head of distinct variables.
pub record SoundQuestion (arities : List ℕ) (r : Rule ℕ) : Type 0 where
  pub within : RuleWithin arities question_most r
  pub safe : Safe r

pub record SoundSummary (arities : List ℕ) (s : Summary) : Type 0 where
  pub stamp : s.stamp < 4294967296
  pub within : RuleWithin arities summary_most s.rule
  pub safe : Safe s.rule
  pub plain : DistinctVariables s.rule.head

pub record SoundValue (b : Book) : Type 0 where
  pub arities : Arities b.arities
  pub need : b.need < 4294967296
  pub question : SoundQuestion b.arities b.question
  pub few : length b.summaries ≤ most_summaries
  pub summaries : (s : Summary) → s ∈ b.summaries → SoundSummary b.arities s

-- The bytes are a sound book of that value.
pub record SoundBook (bytes : List ℕ) (b : Book) : Type 0 where
  pub value : SoundValue b
  pub written : book_bytes b ≡ bytes
