-- Demand 3: of a book's value, of what the rewriter gave, and of what the checker said yes to.
use Rattle.std.specs.Prelude.{◌≡◌, ◌↔◌, List, ℕ, ◌<◌, ◌≤◌, length, take}
use Rattle.std.proofs.Math.Option.{some}
use Rattle.spec.specs.Words.{◌∈◌, Term, Subgoal, Rule, Facts, Listed, AllFit, Yields, itself, Safe, DistinctVariables}
use Rattle.spec.specs.Summaries.{Summaries, summary, HoldJust, rewriting}
use Rattle.spec.specs.Answer.{Rewrites, Answer}
use Rattle.spec.specs.Book.{Book, admitted_of, Summary}
use Rattle.spec.specs.RuleLayout.{rule_bytes}
use Rattle.spec.specs.BookLayout.{SoundBook}

-- Each subgoal is over an admitted summary.
abbrev pub OverAdmitted : {X : Type 0} → Summaries → Rule X → Type 0
OverAdmitted {X} s p = (g : Subgoal (Term X)) → g ∈ p.body → (r : Rule ℕ) × (summary s g.relation ≡ some r)

-- Just one of the two.
pub data OnlyOne (P Q : Type 0) : Type 0 where
  first : P → (Q → ⊥) → OnlyOne P Q
  second : (P → ⊥) → Q → OnlyOne P Q

-- Finite facts, and a row that just one yields of the question over the facts and the rule over the summaries,
-- whatever is stored, if "each admitted summary holds just what its definition yields on them"; and such rows that may be stored.
pub record DiffersSomewhere (b : Book) (p : Rule ℕ) : Type 1 where
  pub facts : List (Subgoal ℕ)
  pub fit : AllFit b.arities facts
  pub row : List ℕ
  pub stored : Facts ℕ
  pub stored_just : HoldJust (admitted_of b) (Listed facts) stored
  pub differs : (held : Facts ℕ) → HoldJust (admitted_of b) (Listed facts) held → OnlyOne (Yields itself b.question (Listed facts) row) (Yields itself p held row)

pub record Demand3 (b : Book) : Type 1 where
  -- "Take a rewriting the rewriter gave .. and any finite set of facts. If each admitted summary holds just what its definition yields on them,
  -- the rewriting over the summaries and the question over the facts yield the same rows."
  pub same : (l : List (Subgoal (Term ℕ))) → Answer (admitted_of b) b.question l
      → (facts : List (Subgoal ℕ)) → AllFit b.arities facts → (held : Facts ℕ) → HoldJust (admitted_of b) (Listed facts) held
      → (row : List ℕ) → Yields itself (rewriting b.question l) held row ↔ Yields itself b.question (Listed facts) row
  -- "Every safe conjunctive question over admitted summaries with fewer subgoals differs on some finite facts" (it need not be safe)
  pub fewer : (l : List (Subgoal (Term ℕ))) → Answer (admitted_of b) b.question l
      → (p : Rule ℕ) → OverAdmitted (admitted_of b) p → length p.body < length l → DiffersSomewhere b p
  -- "where the refusal is 10, every one of any length does"
  pub refused : ((l : List (Subgoal (Term ℕ))) → Rewrites (admitted_of b) b.question l → ⊥)
      → (p : Rule ℕ) → OverAdmitted (admitted_of b) p → DiffersSomewhere b p

pub record GrantedSummary (arities : List ℕ) (r : Rule ℕ) : Type 0 where
  pub fits : AllFit arities r.body
  pub safe : Safe r
  pub distinct : DistinctVariables r.head

-- "Summaries left out must be sound too."
pub record Granted (b : Book) : Type 0 where
  pub question_fits : AllFit b.arities b.question.body
  pub question_safe : Safe b.question
  pub summaries_sound : (m : Summary) → m ∈ b.summaries → GrantedSummary b.arities m.rule

-- "Take a rewriting the rewriter gave, by its search and not from elsewhere": the rule that stands in the first n bytes of the answer area.
pub record Gave (book answer : List ℕ) (n : ℕ) : Type 1 where
  pub value : Book
  pub sound : SoundBook book value
  pub rows : List (Subgoal (Term ℕ))
  pub stands : take n answer ≡ rule_bytes (rewriting value.question rows)
  pub answers : Answer (admitted_of value) value.question rows
  -- ".. and any finite set of facts. If each admitted summary holds just what its definition yields on them, the rewriting over the
  -- summaries and the question over the facts yield the same rows."
  pub same : (facts : List (Subgoal ℕ)) → AllFit value.arities facts → (held : Facts ℕ) → HoldJust (admitted_of value) (Listed facts) held → (row : List ℕ)
      → Yields itself (rewriting value.question rows) held row ↔ Yields itself value.question (Listed facts) row
  -- "Every safe conjunctive question over admitted summaries with fewer subgoals differs on some finite facts"
  pub fewer : (p : Rule ℕ) → OverAdmitted (admitted_of value) p → length p.body < length rows → DiffersSomewhere value p
  -- "It has at most as many subgoals as the question."
  pub few : length rows ≤ length value.question.body

-- "where the refusal is 10, every one of any length does"
pub record GaveNone (book : List ℕ) : Type 1 where
  pub value : Book
  pub sound : SoundBook book value
  pub never : (l : List (Subgoal (Term ℕ))) → Rewrites (admitted_of value) value.question l → ⊥
  pub differ : (p : Rule ℕ) → OverAdmitted (admitted_of value) p → DiffersSomewhere value p

-- "What it says yes to yields the same rows as the question on all finite facts where the summaries hold what their definitions yield"
pub record YesSameRows (book rewriting : List ℕ) : Type 1 where
  pub value : Book
  pub sound : SoundBook book value
  pub rule : Rule ℕ
  pub written : rule_bytes rule ≡ rewriting
  pub same : (facts : List (Subgoal ℕ)) → AllFit value.arities facts → (held : Facts ℕ) → HoldJust (admitted_of value) (Listed facts) held → (row : List ℕ)
      → Yields itself rule held row ↔ Yields itself value.question (Listed facts) row
