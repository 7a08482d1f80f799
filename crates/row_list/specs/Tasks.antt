-- What stands where the rows of one summary are asked for: its head's places and its body as the source, the question's terms and its body as the target.
use Rattle.std.specs.Prelude.{◌≡◌, List, map, ℕ, ◌+◌, ◌*◌, length, replicate}
use Rattle.spec.specs.Words.{Term, Rule, DistinctVariables}
use Rattle.spec.specs.RuleLayout.{Layout, most_head}
use Rattle.spec.specs.BookLayout.{question_most, summary_most, most_arity}
use Rattle.spec.specs.Given.{at_front}
use Rattle.codes.specs.Code.{term_code, slot_code, codes_of, widths_of}
use Rattle.summary_rows.specs.RowTask.{placed, onto, TermsOf}

-- A source has a place for each term of a summary's head, and its subgoals; a target each term of the question, and its subgoals.
abbrev pub source_most : ℕ
source_most = most_head + summary_most

abbrev pub target_most : ℕ
target_most = most_arity * question_most + question_most

-- The bytes are a summary's: "a rule whose head is distinct variables".
pub record SummaryIs (relations bytes : List ℕ) (v : Rule ℕ) : Type 0 where
  pub layout : Layout relations summary_most bytes v
  pub plain : DistinctVariables v.head

pub record SomeSummary (relations bytes : List ℕ) : Type 0 where
  pub rule : Rule ℕ
  pub is : SummaryIs relations bytes rule

-- the slots of the head's variables, one after the other
pub record HeadSlots (bytes slots : List ℕ) : Type 0 where
  pub is : (relations : List ℕ) (v : Rule ℕ) → SummaryIs relations bytes v → slots ≡ at_front (map slot_code v.head) (replicate most_head 0)

-- The source's codes and widths at the front of two areas; n source subgoals.
pub record SourceCodes (relations bytes before after old new : List ℕ) (n : ℕ) : Type 0 where
  pub count : (v : Rule ℕ) → SummaryIs relations bytes v → n ≡ length (placed v)
  pub codes : (v : Rule ℕ) → SummaryIs relations bytes v → after ≡ at_front (codes_of slot_code (placed v)) before
  pub widths : (v : Rule ℕ) → SummaryIs relations bytes v → new ≡ at_front (widths_of (placed v)) old

-- The target's codes at the front of an area; n targets.
pub record TargetCodes (relations bytes before after : List ℕ) (n : ℕ) : Type 0 where
  pub terms : (q : Rule ℕ) → Layout relations question_most bytes q → List (Term ℕ)
  pub all : (q : Rule ℕ) (l : Layout relations question_most bytes q) → TermsOf q (terms q l)
  pub count : (q : Rule ℕ) (l : Layout relations question_most bytes q) → n ≡ length (onto (terms q l) q)
  pub codes : (q : Rule ℕ) (l : Layout relations question_most bytes q) → after ≡ at_front (codes_of term_code (onto (terms q l) q)) before
