-- Whether rows taken can be completed: by later rows, or by any of a set of rows, at most so many.
use Rattle.std.specs.Prelude.{◌⊎◌, List, ◌++◌, ℕ, ◌≤◌, ◌<◌, length}
use Rattle.spec.specs.Words.{◌∈◌, Rule}
use Rattle.spec.specs.Summaries.{Summaries}
use Rattle.spec.proofs.Lists.Rising.{Rising}
use Rattle.spec.proofs.Decided.Rows.{RowList}
use Rattle.choice_theory.specs.Numbered.{InRowList, WorksOn}

-- The rows p, and at most b more of the rows from `from` on, work.
pub record Can (s : Summaries) (q : Rule ℕ) (rows : RowList) (p : List ℕ) (from b : ℕ) : Type 0 where
  pub more : List ℕ
  pub rising : Rising ◌<◌ more
  pub later : (u : ℕ) → u ∈ more → (from ≤ u) × (u < length rows)
  pub few : length more ≤ b
  pub works : WorksOn s q rows (InRowList (p ++ more))

abbrev pub Any : ℕ → Type 0
Any u = Unit {0}

abbrev pub Either : (ℕ → Type 0) → List ℕ → ℕ → Type 0
Either used more u = used u ⊎ (u ∈ more)

-- The used rows, and at most b of those that may be used at the cost of one, work. The list need not be of distinct rows.
pub record CanBy (s : Summaries) (q : Rule ℕ) (rows : RowList) (used may : ℕ → Type 0) (b : ℕ) : Type 0 where
  pub more : List ℕ
  pub among : (u : ℕ) → u ∈ more → (u < length rows) × may u
  pub few : length more ≤ b
  pub works : WorksOn s q rows (Either used more)
