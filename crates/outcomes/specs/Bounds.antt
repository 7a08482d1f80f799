-- What reading grants of a sound book, as far as the search asks for it: the bounds of question and summaries, and rows within them.
use Rattle.std.specs.Prelude.{◌≡◌, List, ℕ}
use Rattle.std.proofs.Math.Option.{some}
use Rattle.spec.specs.Words.{◌∈◌, Term, Subgoal, Rule}
use Rattle.spec.specs.Summaries.{Summaries, summary}
use Rattle.spec.specs.RuleLayout.{TermsWithin, RuleWithin}
use Rattle.spec.specs.BookLayout.{Arities, question_most, summary_most}
use Rattle.spec.proofs.Decided.Sound.{AllSafe}
use Rattle.containment.proofs.Held.{Every}

-- The bounds of a sound book: of its question, and of its admitted summaries.
pub record Bounds (arities : List ℕ) (s : Summaries) (q : Rule ℕ) : Type 0 where
  pub relations : Arities arities
  pub question : RuleWithin arities question_most q
  pub summaries : Every s (RuleWithin arities summary_most)
  pub safe : AllSafe s

-- Subgoals over admitted summaries, their terms within bounds. Summary rows are such.
pub record RowsWithin (s : Summaries) (l : List (Subgoal (Term ℕ))) : Type 0 where
  pub over : (g : Subgoal (Term ℕ)) → g ∈ l → (r : Rule ℕ) × (summary s g.relation ≡ some r)
  pub within : (g : Subgoal (Term ℕ)) → g ∈ l → TermsWithin g.terms
