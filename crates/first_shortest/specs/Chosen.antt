-- What the choice of rows promises.
use Rattle.std.specs.Prelude.{◌≡◌, List, Option, Some, None, ℕ, ◌-◌, ◌<◌, ◌≤◌, length, take, drop, replicate}
use Rattle.spec.specs.Words.{◌∈◌, Rule}
use Rattle.spec.specs.Summaries.{Summaries}
use Rattle.spec.specs.Answer.{Rewrites, Answer}
use Rattle.spec.specs.BookLayout.{question_most}
use Rattle.spec.proofs.Decided.Rows.{RowList}
use Rattle.choice_theory.specs.Numbered.{rows_at}
use Rattle.task.specs.Task.{Task}
use Rattle.first_shortest.specs.Posed.{PosedBy}
use Rattle.first_shortest.specs.declared.Chosen.{Chosen}

-- the rows chosen, by their numbers, counted from 0
abbrev pub numbers_of : Chosen → List ℕ
numbers_of r = take r.k r.rows

-- "The answer is the first of the shortest equivalent lists of distinct summary rows": it has k rows, and their numbers stand first.
pub record Found (s : Summaries) (q : Rule ℕ) (rows : RowList) (r : Chosen) : Type 0 where
  pub few : r.k ≤ question_most
  pub count : length (numbers_of r) ≡ r.k
  pub within : (u : ℕ) → u ∈ numbers_of r → u < length rows
  pub answer : Answer s q (rows_at rows (numbers_of r))
  pub rest : drop r.k r.rows ≡ replicate (question_most - r.k) 0

-- "no equivalent list exists"
pub record NotFound (s : Summaries) (q : Rule ℕ) : Type 0 where
  pub none : (l : RowList) → Rewrites s q l → ⊥

abbrev pub ChosenBy : Summaries → Rule ℕ → RowList → Option Chosen → Type 0
ChosenBy s q rows (Some r) = Found s q rows r
ChosenBy s q rows None = NotFound s q

-- Of every question whose task it is.
pub record ChoiceSays (t : Task) (b : List ℕ) (n : ℕ) (r : Option Chosen) : Type 0 where
  pub by : (s : Summaries) (q : Rule ℕ) (rows : RowList) → PosedBy s q rows t b n → ChosenBy s q rows r
