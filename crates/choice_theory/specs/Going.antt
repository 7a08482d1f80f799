-- The pass over the rows, in their order: what is known of the rows taken so far.
use Rattle.std.specs.Prelude.{◌≡◌, ◌⊎◌, List, ◌++◌, ℕ, ◌+◌, ◌≤◌, ◌<◌, length}
use Rattle.spec.specs.Words.{◌∈◌, Rule}
use Rattle.spec.specs.Summaries.{Summaries}
use Rattle.spec.specs.Order.{ListBefore}
use Rattle.spec.proofs.Lists.Rising.{Rising}
use Rattle.spec.proofs.Decided.Rows.{RowList}
use Rattle.choice_theory.specs.Numbered.{Numbers, InRowList, WorksOn}
use Rattle.choice_theory.specs.Can.{Can}

-- No list of fewer than k rows works.
abbrev pub AtLeast : Summaries → Rule ℕ → RowList → ℕ → Type 0
AtLeast s q rows k = (ns : List ℕ) → Numbers (length rows) ns → WorksOn s q rows (InRowList ns) → k ≤ length ns

-- The list begins with p and goes on with rows from `from` on.
abbrev pub BeginsWith : List ℕ → ℕ → List ℕ → Type 0
BeginsWith p from ns = (t : List ℕ) × (ns ≡ p ++ t) × ((u : ℕ) → u ∈ t → from ≤ u)

-- Each list that begins with p is before the list.
abbrev pub Past : List ℕ → List ℕ → Type 0
Past p ns = (t : List ℕ) → ListBefore ◌<◌ (p ++ t) ns

-- Of the rows before `from` those of p are taken, and `left` are still to take.
pub record PassState (s : Summaries) (q : Rule ℕ) (rows : RowList) (p : List ℕ) (from left : ℕ) : Type 0 where
  pub rising : Rising ◌<◌ p
  pub earlier : (u : ℕ) → u ∈ p → u < from
  pub within : from ≤ length rows
  -- they can be completed by the rows from `from` on, with no fewer in all, and what works with as many goes on from them or comes after
  pub can : Can s q rows p from left
  pub fewest : AtLeast s q rows (length p + left)
  pub first : (ns : List ℕ) → Numbers (length rows) ns → WorksOn s q rows (InRowList ns) → length ns ≡ length p + left → BeginsWith p from ns ⊎ Past p ns
