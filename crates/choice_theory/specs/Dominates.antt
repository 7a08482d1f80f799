-- A row that can stand for another.
use Rattle.std.specs.Prelude.{ℕ}
use Rattle.spec.specs.Words.{◌∈◌, Term, con, Subgoal, becomes, each}
use Rattle.spec.specs.Summaries.{Summaries, Own, kept, in_place}
use Rattle.spec.proofs.Decided.Rows.{RowList}
use Rattle.containment.proofs.Expand.{extended}
use Rattle.choice_theory.specs.Numbered.{row_at}

-- Row r's use goes into row d's: its own variables become some terms, the rows' terms stay, and each subgoal becomes one of row d's use.
pub record Dominates (s : Summaries) (rows : RowList) (d r : ℕ) : Type 0 where
  pub value : ℕ → Term (Own ℕ)
  pub holds : (c : Subgoal (Term (Own ℕ))) → c ∈ in_place s r (row_at rows r) → each (becomes con (extended kept (λ u. value))) c ∈ in_place s d (row_at rows d)
