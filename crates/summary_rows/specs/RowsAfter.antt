-- What the listing of one summary's rows promises.
use Rattle.std.specs.Prelude.{◌≡◌, List, ◌++◌, ℕ, ◌+◌, ◌*◌, ◌-◌, ◌<◌, ◌≤◌, length, take, drop, Option, MatchOption}
use Rattle.spec.specs.Words.{Term, con, Subgoal, Rule, Listed, Yields}
use Rattle.spec.specs.Order.{RowBefore}
use Rattle.spec.specs.Table.{most_rows}
use Rattle.spec.proofs.Lists.Enumerate.{Enumerates}
use Rattle.codes.specs.Code.{term_code, codes_of, subgoal_size}
use Rattle.task.specs.Task.{Task}
use Rattle.summary_rows.specs.RowTask.{TaskOf}

-- A row of the summary of number n, whose rule is v: "the head of an admitted summary after sending its variables to terms of the question so that
-- each of its subgoals becomes a subgoal of the question, constants kept."
pub record RowBy (n : ℕ) (v q : Rule ℕ) (g : Subgoal (Term ℕ)) : Type 0 where
  pub number : g.relation ≡ n
  pub yields : Yields con v (Listed q.body) g.terms

-- After `found` rows stand those of this summary, "sorted", "equal rows once", as far as there is room for 64 in all: how many rows stand there then, or
-- none where there are more than 64. A row is nine codes. The codes before them and after them stay.
pub record RowsAfter (n : ℕ) (v q : Rule ℕ) (found : ℕ) (before after : List ℕ) (r : Option ℕ) : Type 0 where
  pub rows : List (Subgoal (Term ℕ))
  pub all : Enumerates (RowBy n v q) RowBefore rows
  pub count : MatchOption r (most_rows < found + length rows) (λ c. (c ≡ found + length rows) × (c ≤ most_rows))
  pub codes : let shown = take (most_rows - found) rows in after ≡ take (subgoal_size * found) before ++ (codes_of term_code shown ++ drop (subgoal_size * (found + length shown)) before)

-- What is asked: the task of some summary and question, at most 64 rows so far, and room for 64.
pub record RowsNeeds (p : Task) (h found area : ℕ) : Type 0 where
  pub rule : Rule ℕ
  pub question : Rule ℕ
  pub terms : List (Term ℕ)
  pub task : TaskOf rule question terms p h
  pub few : found ≤ most_rows
  pub room : subgoal_size * most_rows ≤ area

-- What is promised, of every summary and question whose task it is.
pub record RowsSays (p : Task) (h n found : ℕ) (before after : List ℕ) (r : Option ℕ) : Type 0 where
  pub rows : (v q : Rule ℕ) (ts : List (Term ℕ)) → TaskOf v q ts p h → RowsAfter n v q found before after r
