-- The law of numbers: rows work by their numbers exactly if the question maps into the expansion of the list of those rows.
use mathlib.Core.Logic.{◌↔◌}
use mathlib.Core.List.{List}
use Prim.Native.Nat.{ℕ, ◌<◌}
use lib.ListN.{length}
use Rattle.spec.specs.Words.{◌∈◌, Rule, Mapping}
use Rattle.spec.specs.Summaries.{Summaries, expansion, rewriting}
use Rattle.spec.proofs.Decided.Rows.{RowList}
use Rattle.choice_theory.specs.Numbered.{rows_at, InRowList, WorksOn}
use Rattle.choice_theory.proofs.Works.{works-maps, maps-works}

module _ (s : Summaries) (q : Rule ℕ) (rows : RowList) where
  module _ (ns : List ℕ) where
    -- The law of numbers.
    pub works-is : ((u : ℕ) → u ∈ ns → u < length rows) → WorksOn s q rows (InRowList ns) ↔ Mapping q (expansion s (rewriting q (rows_at rows ns)))
    works-is within = (works-maps s q rows ns, maps-works s q rows ns within)
