-- Rows by their numbers, counted from 0 in their order; and the question mapped into the uses of some of them, each use numbered by its row.
use Rattle.std.specs.Prelude.{List, [], map, ℕ, ◌<◌, length, get_or}
use Rattle.spec.specs.Words.{◌∈◌, Term, con, Subgoal, Rule, becomes, Yields}
use Rattle.spec.specs.Summaries.{Summaries, Own, kept, in_place}
use Rattle.spec.proofs.Lists.Rising.{Rising}
use Rattle.spec.proofs.Decided.Rows.{RowList}

abbrev pub nothing : {A : Type 0} → Subgoal A
nothing = record { relation = 0; terms = [] }

abbrev pub row_at : RowList → ℕ → Subgoal (Term ℕ)
row_at rows u = get_or rows u nothing

abbrev pub rows_at : RowList → List ℕ → RowList
rows_at rows ns = map (row_at rows) ns

-- Numbers of n rows, ascending.
pub record Numbers (n : ℕ) (ns : List ℕ) : Type 0 where
  pub rising : Rising ◌<◌ ns
  pub within : (u : ℕ) → u ∈ ns → u < n

abbrev pub InRowList : List ℕ → ℕ → Type 0
InRowList ns u = u ∈ ns

-- The subgoal stands in the use of a chosen row.
pub record InChosenUse (s : Summaries) (rows : RowList) (Chosen : ℕ → Type 0) (c : Subgoal (Term (Own ℕ))) : Type 0 where
  pub row : ℕ
  pub within : row < length rows
  pub chosen : Chosen row
  pub inside : c ∈ in_place s row (row_at rows row)

abbrev pub kept_head : Rule ℕ → List (Term (Own ℕ))
kept_head q = map (becomes con kept) q.head

-- A containment mapping from the question into the expansion of all rows, every subgoal to a subgoal of a chosen row's use.
abbrev pub WorksOn : Summaries → Rule ℕ → RowList → (ℕ → Type 0) → Type 0
WorksOn s q rows Chosen = Yields con q (InChosenUse s rows Chosen) (kept_head q)
