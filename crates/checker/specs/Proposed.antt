-- What is promised of the rewriting that is given: its rows, or that it is no rewriting to look at.
use Rattle.std.specs.Prelude.{◌≡◌, List, ℕ, length, replicate, Option, Some, None}
use Rattle.spec.specs.Words.{Rule}
use Rattle.spec.specs.Book.{Book}
use Rattle.spec.specs.RuleLayout.{rule_bytes, Layout}
use Rattle.spec.specs.BookLayout.{SoundBook, question_most}
use Rattle.spec.specs.Truth.{RewritingRule}
use Rattle.spec.specs.Given.{at_front}
use Rattle.codes.specs.Code.{term_code, codes_of, question_codes}
use Rattle.book_codes.specs.Question.{SomeSound}
use Rattle.checker.specs.Lengths.{HeadsNeeds}
use Rattle.checker.specs.declared.proposal.Proposal.{Proposal}

-- so many codes for twelve rows, zeros
abbrev pub empty : List ℕ
empty = replicate question_codes 0

module _ (b : Book) (rewriting : List ℕ) where
  -- The bytes are no "one whole rule by the layout with 1 to 12 subgoals over admitted summaries and the question's head".
  abbrev pub NotProposed : Type 0
  NotProposed = (rule : Rule ℕ) → RewritingRule b rule → rule_bytes rule ≡ rewriting → ⊥

  -- They are such a rule: its rows, as codes, stand at the front, and zeros behind them.
  pub record IsProposed (r : Proposal) : Type 0 where
    pub rule : Rule ℕ
    pub is : RewritingRule b rule
    pub written : rule_bytes rule ≡ rewriting
    pub count : r.count ≡ length rule.body
    pub codes : r.codes ≡ at_front (codes_of term_code rule.body) empty

  abbrev pub Proposed : Option Proposal → Type 0
  Proposed None = NotProposed
  Proposed (Some r) = IsProposed r

-- Of every value of the book: none exactly if the bytes are no such rule, else its rows.
pub record ProposalSays (book rewriting : List ℕ) (r : Option Proposal) : Type 0 where
  pub says : (b : Book) → SoundBook book b → Proposed b rewriting r

-- A sound book, and the bytes of a rule that has its question's head, laid out over the lengths of its summaries' heads.
pub record RowsReadNeeds (book rewriting lengths : List ℕ) : Type 0 where
  pub sound : SomeSound book
  pub heads : HeadsNeeds book lengths
  pub rule : Rule ℕ
  pub layout : Layout lengths question_most rewriting rule
  pub same : (b : Book) → SoundBook book b → rule.head ≡ b.question.head
