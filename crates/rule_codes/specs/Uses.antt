-- What is promised of the codes of one use of a summary.
use Rattle.std.specs.Prelude.{◌≡◌, List, ℕ, length}
use Rattle.std.proofs.Math.Option.{some}
use Rattle.spec.specs.Words.{Term, Subgoal, Rule}
use Rattle.spec.specs.Summaries.{Summaries, summary, Own, in_place}
use Rattle.spec.specs.Given.{at_front}
use Rattle.codes.specs.Code.{codes_of}
use Rattle.rule_codes.specs.Laid.{UseOf}

-- The codes of a summary's body in use u, in place of a subgoal, at the front of an area.
pub record UseCodes (arities bytes row : List ℕ) (code : Term (Own ℕ) → ℕ) (u : ℕ) (before after : List ℕ) (n : ℕ) : Type 0 where
  pub count : (v : Rule ℕ) (ts : List (Term ℕ)) → UseOf arities bytes row v ts → n ≡ length v.body
  pub codes : (v : Rule ℕ) (s : Summaries) (g : Subgoal (Term ℕ)) → UseOf arities bytes row v g.terms → summary s g.relation ≡ some v
      → after ≡ at_front (codes_of code (in_place s u g)) before
