-- Which entries are summaries.
use Rattle.std.specs.Prelude.{Bool, ℕ, ltb}

-- "entry 1 the question, entry i + 1 summary i"
abbrev pub summary_at : ℕ → Bool
summary_at i = ltb 1 i
