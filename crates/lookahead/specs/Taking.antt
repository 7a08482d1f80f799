-- Rows in use, rows that may be taken, and how many of these: which targets that leaves.
use Rattle.std.specs.Prelude.{◌⊎◌, cond, List, [], ◌∷◌, ℕ, ◌-◌, ◌<◌}
use Rattle.spec.specs.Words.{◌∈◌}
use Rattle.bits.specs.Sets.{Has, has, with}
use Rattle.task.specs.Task.{Task, row_of}

-- The same, target by target: a row in use is free, another is taken if it may be and some are left, and is then in use.
abbrev pub Enters : ℕ → ℕ → ℕ → ℕ → Type 0
Enters used may left row = Has used row ⊎ (Has may row × (0 < left))

abbrev pub left_after : ℕ → ℕ → ℕ → ℕ
left_after used left row = cond (has used row) left (left - 1)

abbrev pub Affords : Task → ℕ → ℕ → ℕ → List ℕ → Type 0
Affords p used may left [] = Unit {0}
Affords p used may left (k ∷ l) = Enters used may left (row_of p k) × Affords p (with used (row_of p k)) may (left_after used left (row_of p k)) l

-- However many were left: each of the targets lies in a row in use or in one that may be taken.
abbrev pub Open : Task → ℕ → ℕ → List ℕ → Type 0
Open p used may l = (k : ℕ) → k ∈ l → Has used (row_of p k) ⊎ Has may (row_of p k)
