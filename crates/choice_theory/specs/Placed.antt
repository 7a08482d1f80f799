-- What can be done with sets of rows, by places: the uses of all rows one after the other, of each target its row, and which pairs of subgoal and target are allowed.
use Rattle.std.specs.Prelude.{List, [], ◌∷◌, ◌++◌, ℕ, suc, ◌≤◌, ◌<◌, length, get_or, replicate}
use Rattle.spec.specs.Words.{◌∈◌, Term, Subgoal, Rule}
use Rattle.spec.specs.Summaries.{Summaries, Own, uses, joined}
use Rattle.spec.proofs.Decided.Rows.{RowList}
use Rattle.choice_theory.specs.Numbered.{kept_head}
use Rattle.choice_theory.specs.Can.{Either}
use Rattle.choice_theory.specs.MapsAt.{MapsAt}

abbrev pub targets : Summaries → RowList → List (Subgoal (Term (Own ℕ)))
targets s rows = joined (uses s 0 rows)

-- Of each element of the lists, one after the other, its list's number, counted from u.
abbrev pub owners : {A : Type 0} → ℕ → List (List A) → List ℕ
owners u [] = []
owners u (l ∷ ls) = replicate (length l) u ++ owners (suc u) ls

abbrev pub row_of : Summaries → RowList → ℕ → ℕ
row_of s rows k = get_or (owners 0 (uses s 0 rows)) k 0

abbrev pub AnyPair : ℕ → ℕ → Type 0
AnyPair i k = Unit {0}

-- A mapping by allowed pairs, each target in a used row or in one of at most b taken ones, which may be used.
pub record PlacedInRows (s : Summaries) (q : Rule ℕ) (rows : RowList) (Pair : ℕ → ℕ → Type 0) (used may : ℕ → Type 0) (b : ℕ) : Type 0 where
  pub ks : List ℕ
  pub maps : MapsAt q (kept_head q) (targets s rows) ks
  pub pairs : (i : ℕ) → i < length q.body → Pair i (get_or ks i 0)
  pub taken : List ℕ
  pub few : length taken ≤ b
  pub allowed : (u : ℕ) → u ∈ taken → may u
  pub each : (k : ℕ) → k ∈ ks → Either used taken (row_of s rows k)
