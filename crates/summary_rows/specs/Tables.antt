-- The table of summary rows while the summaries are gone through by number.
use Rattle.std.specs.Prelude.{◌≡◌, List, ◌++◌, ℕ, ◌*◌, ◌≤◌, length, drop}
use Rattle.spec.specs.Words.{Term, Subgoal, Rule}
use Rattle.spec.specs.Summaries.{Summaries, SummaryRow}
use Rattle.spec.specs.Order.{RowBefore}
use Rattle.spec.specs.Table.{most_rows}
use Rattle.spec.proofs.Lists.Enumerate.{Enumerates}
use Rattle.codes.specs.Code.{term_code, codes_of, subgoal_size}

-- a row of one of the summaries 1 to n; a summary that is left out has none
pub record RowTo (s : Summaries) (q : Rule ℕ) (n : ℕ) (g : Subgoal (Term ℕ)) : Type 0 where
  pub row : SummaryRow s q g
  pub up_to : g.relation ≤ n

-- The rows of the summaries 1 to n stand in the table, "sorted", "equal rows once", at most 64; `count` is how many; behind them stays what was there.
pub record TableTo (s : Summaries) (q : Rule ℕ) (n : ℕ) (before out : List ℕ) (count : ℕ) : Type 0 where
  pub rows : List (Subgoal (Term ℕ))
  pub all : Enumerates (RowTo s q n) RowBefore rows
  pub counted : count ≡ length rows
  pub few : count ≤ most_rows
  pub codes : out ≡ codes_of term_code rows ++ drop (subgoal_size * count) before
