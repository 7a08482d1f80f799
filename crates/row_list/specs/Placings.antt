-- What stands where the rows of one summary are asked for, and what they are.
use Rattle.std.specs.Prelude.{◌≡◌, List, ℕ, ◌*◌, ◌≤◌, length, replicate, Option}
use Rattle.spec.specs.Words.{Term, Rule, Safe}
use Rattle.spec.specs.RuleLayout.{RuleWithin}
use Rattle.spec.specs.BookLayout.{Arities, question_most}
use Rattle.spec.specs.Table.{most_rows}
use Rattle.codes.specs.Code.{term_code, codes_of, subgoal_size}
use Rattle.summary_rows.specs.RowTask.{onto, TermsOf}
use Rattle.summary_rows.specs.RowsAfter.{RowsAfter}
use Rattle.row_list.specs.Tasks.{SummaryIs}

-- The target's codes, and a 0 for each: they are all of one row, which is in use.
pub record TargetIs (q : Rule ℕ) (target own : List ℕ) : Type 0 where
  pub terms : List (Term ℕ)
  pub all : TermsOf q terms
  pub codes : target ≡ codes_of term_code (onto terms q)
  pub marks : own ≡ replicate (length (onto terms q)) 0

-- A sound summary v as bytes, and the target that a sound question q makes.
pub record SummaryTask (relations bytes target own : List ℕ) (v q : Rule ℕ) : Type 0 where
  pub known : Arities relations
  pub summary : SummaryIs relations bytes v
  pub safe : Safe v
  pub question : RuleWithin relations question_most q
  pub onto : TargetIs q target own

pub record SummaryTaskNeeds (relations bytes target own : List ℕ) (found area : ℕ) : Type 0 where
  pub rule : Rule ℕ
  pub question : Rule ℕ
  pub is : SummaryTask relations bytes target own rule question
  pub few : found ≤ most_rows
  pub room : subgoal_size * most_rows ≤ area

pub record PlacedRows (relations bytes target own : List ℕ) (number found : ℕ) (before after : List ℕ) (r : Option ℕ) : Type 0 where
  pub rows : (v q : Rule ℕ) → SummaryTask relations bytes target own v q → RowsAfter number v q found before after r
