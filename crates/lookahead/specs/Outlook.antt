-- What is seen before a source subgoal is placed: that it would be in vain.
-- Each source subgoal of the same use wants a row with a target that it may still become.
use Rattle.std.specs.Prelude.{Bool, true, ◌≡◌, ◌⊎◌, ◌↔◌, List, ℕ, suc, ◌+◌, ◌/◌, ◌%◌, ◌^◌, ◌<◌, ◌≤◌, length, get_or}
use Rattle.spec.specs.Table.{most_rows}
use Rattle.codes.specs.Code.{uses_goals}
use Rattle.bits.specs.Sets.{Has}
use Rattle.task.specs.Task.{Task, targets, source_relation, source_term, target_relation, target_term, width_of, row_of}
use Rattle.task.specs.Terms.{stood}
use Rattle.lookahead.specs.declared.Wants.{Wants}

-- the source subgoal i is of the same use as the source subgoal at, and none before it: no use ends between them
pub record SameUse (lasts : List ℕ) (at i : ℕ) : Type 0 where
  pub from : at ≤ i
  pub there : i < length lasts
  pub one : (j : ℕ) → at ≤ j → j < i → get_or lasts j 0 ≡ 0

-- from at up to end there are those of the same use, and no others
pub record UseEnd (lasts : List ℕ) (at end : ℕ) : Type 0 where
  pub exactly : (i : ℕ) → ((at ≤ i) × (i < end)) ↔ SameUse lasts at i

-- the source term x may still become y: it is not bound, or to that
abbrev pub MayBecome : List ℕ → ℕ → ℕ → Type 0
MayBecome b x y = (stood b x ≡ 0 → ⊥) → stood b x ≡ y

-- the source subgoal i may still become the target k
pub record SuitsTarget (p : Task) (b : List ℕ) (i k : ℕ) : Type 0 where
  pub relation : target_relation p k ≡ source_relation p i
  pub terms : (a : ℕ) → a < width_of p i → MayBecome b (source_term p i a) (target_term p k a)

pub record Offered (p : Task) (b : List ℕ) (allowed i k : ℕ) (answer : Bool) : Type 0 where
  pub exactly : (answer ≡ true) ↔ (Has allowed (row_of p k) × SuitsTarget p b i k)

-- the row x has a target that the source subgoal i may still become
pub record HasTarget (p : Task) (b : List ℕ) (i x : ℕ) : Type 0 where
  pub k : ℕ
  pub within : k < targets p
  pub row : row_of p k ≡ x
  pub fits : SuitsTarget p b i k

-- rows of the set `allowed` with a target for the source subgoal i: all of them, unless one that is in use is among them
pub record Offers (p : Task) (b : List ℕ) (used allowed i rows : ℕ) : Type 0 where
  pub only : (x : ℕ) → Has rows x → Has allowed x × HasTarget p b i x
  pub each : ((x : ℕ) → Has rows x → Has used x → ⊥) → (k : ℕ) → k < targets p → Has allowed (row_of p k) → SuitsTarget p b i k → Has rows (row_of p k)

-- x is a slot of the source subgoal i
pub record SlotOf (p : Task) (i x : ℕ) : Type 0 where
  pub a : ℕ
  pub counts : a < width_of p i
  pub is : source_term p i a ≡ x
  pub slot : x < most_rows

pub record SlotsOf (p : Task) (i set slots : ℕ) : Type 0 where
  pub exactly : (x : ℕ) → Has slots x ↔ (Has set x ⊎ SlotOf p i x)

unfoldable pub member_of : ℕ → ℕ → ℕ
member_of set x = set / 2 ^ x % 2

-- there are few, and none serves more
pub record Steady (w : Wants) : Type 0 where
  pub few : w.many < uses_goals
  pub long : length w.served ≡ most_rows
  pub below : (x : ℕ) → get_or w.served x 0 ≤ w.many

pub record Wanting (w : Wants) (rows set : ℕ) (more : Wants) : Type 0 where
  pub many : more.many ≡ suc w.many
  pub long : length more.served ≡ most_rows
  pub served : (x : ℕ) → x < most_rows → get_or more.served x 0 ≡ get_or w.served x 0 + member_of rows x
  pub slots : more.slots ≡ set

-- m is the largest of the 64
pub record Most (l : List ℕ) (m : ℕ) : Type 0 where
  pub each : (x : ℕ) → x < most_rows → get_or l x 0 ≤ m
  pub one : (x : ℕ) × (x < most_rows) × (get_or l x 0 ≡ m)
