-- An accepted answer with its witness: what the answer area and the witness area say.
use Rattle.std.specs.Prelude.{List, ℕ}
use Rattle.spec.specs.Words.{Term, Subgoal, Rule}
use Rattle.spec.specs.Summaries.{Summaries, rewriting}
use Rattle.spec.specs.Answer.{Answer, FirstThere, FirstBack}

-- The rows, and the two parts of the witness.
pub record Answered : Type 0 where
  pub rows : List (Subgoal (Term ℕ))
  pub there : List ℕ
  pub back : List ℕ

pub record Right (s : Summaries) (q : Rule ℕ) (a : Answered) : Type 0 where
  pub answers : Answer s q a.rows
  pub goes : FirstThere s q (rewriting q a.rows) a.there
  pub returns : FirstBack s q (rewriting q a.rows) a.back
