-- The rows taken and the rows to come, as sets: used, and those that may be used.
use Rattle.std.specs.Prelude.{List, ℕ, ◌≤◌, ◌<◌}
use Rattle.spec.specs.Words.{◌∈◌}

-- Of n rows, just those of p are used, and just those from `from` on may be.
pub record Marked (n : ℕ) (used may : ℕ → Type 0) (p : List ℕ) (from : ℕ) : Type 0 where
  pub used_in : (u : ℕ) → u < n → used u → u ∈ p
  pub used_out : (u : ℕ) → u < n → u ∈ p → used u
  pub may_in : (u : ℕ) → u < n → may u → from ≤ u
  pub may_out : (u : ℕ) → u < n → from ≤ u → may u
