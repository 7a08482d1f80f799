-- A task of placing: each of some source subgoals is to become one of some target subgoals, under one value for each of the source's variables.
-- A subgoal is nine codes: its relation, then eight terms, of which the first few count.
-- A source term below 64 is a slot, and stands for a variable: slots 0 to 31 are shared, 32 to 63 are the current use's own. Any other code stands for itself.
use Rattle.std.specs.Prelude.{◌≡◌, cond, List, [], ◌∷◌, ℕ, zero, suc, ◌+◌, ◌*◌, ◌<◌, ◌≤◌, length, get_or, ltb}
use Rattle.spec.specs.BookLayout.{most_arity}
use Rattle.spec.specs.Table.{most_rows}
use Rattle.spec.specs.RuleLayout.{variables}
use Rattle.codes.specs.Code.{subgoal_size, uses_goals, most_slots}

pub record Task : Type 0 where
  -- the codes of the source subgoals
  pub source : List ℕ
  -- for each source subgoal, how many of its terms count
  pub widths : List ℕ
  -- for each source subgoal, not 0 if it is the last of its use
  pub lasts : List ℕ
  -- the codes of the targets
  pub target : List ℕ
  -- for each target, the row that it belongs to
  pub own : List ℕ

abbrev pub posed : List ℕ → List ℕ → List ℕ → List ℕ → List ℕ → Task
posed source widths lasts target own = record { source = source; widths = widths; lasts = lasts; target = target; own = own }

-- how many source subgoals, how many targets
abbrev pub goals : Task → ℕ
goals p = length p.widths

abbrev pub targets : Task → ℕ
targets p = length p.own

abbrev pub source_relation : Task → ℕ → ℕ
source_relation p i = get_or p.source (subgoal_size * i) 0

abbrev pub source_term : Task → ℕ → ℕ → ℕ
source_term p i a = get_or p.source (subgoal_size * i + 1 + a) 0

abbrev pub target_relation : Task → ℕ → ℕ
target_relation p k = get_or p.target (subgoal_size * k) 0

abbrev pub target_term : Task → ℕ → ℕ → ℕ
target_term p k a = get_or p.target (subgoal_size * k + 1 + a) 0

abbrev pub width_of : Task → ℕ → ℕ
width_of p i = get_or p.widths i 0

abbrev pub last_of : Task → ℕ → ℕ
last_of p i = get_or p.lasts i 0

abbrev pub row_of : Task → ℕ → ℕ
row_of p k = get_or p.own k 0

-- What a task's maker sees to.
pub record Sized (p : Task) : Type 0 where
  -- at most 12 summaries of at most 8 subgoals
  pub few : goals p ≤ uses_goals
  pub source : length p.source ≡ subgoal_size * goals p
  pub lasts : length p.lasts ≡ goals p
  -- at most 64 rows of at most 8 subgoals
  pub many : targets p ≤ 512
  pub target : length p.target ≡ subgoal_size * targets p
  -- an arity is at most 8
  pub widths : (i : ℕ) → width_of p i ≤ most_arity
  -- rows are members of sets in one word
  pub rows : (k : ℕ) → row_of p k < most_rows
  -- 0 is no code of a target, since a slot that holds 0 is not bound
  pub solid : (k a : ℕ) → k < targets p → a < most_arity → target_term p k a ≡ 0 → ⊥

-- What a source term becomes, where v says the slots' values.
unfoldable pub value_of : (ℕ → ℕ) → ℕ → ℕ
value_of v x = cond (ltb x most_slots) (v x) x

-- Under v the source subgoal i becomes the target k: the same relation, and term by term.
pub record Agrees (p : Task) (v : ℕ → ℕ) (i k : ℕ) : Type 0 where
  pub relation : target_relation p k ≡ source_relation p i
  pub terms : (a : ℕ) → a < width_of p i → value_of v (source_term p i a) ≡ target_term p k a

-- "its other variables fresh for each use": v serves the source subgoal i and w the next. They are the same, except that a new use has values of its own.
pub record Linked (p : Task) (i : ℕ) (v w : ℕ → ℕ) : Type 0 where
  pub stays : last_of p i ≡ 0 → (x : ℕ) → w x ≡ v x
  pub shared : (x : ℕ) → x < variables → w x ≡ v x

-- l has, for each of the n source subgoals from at on, the target that it becomes; v serves the first of them.
pub data Completes (p : Task) : ℕ → ℕ → (ℕ → ℕ) → List ℕ → Type 0 where
  done : {at : ℕ} {v : ℕ → ℕ} → Completes p zero at v []
  put : {n at k : ℕ} {v w : ℕ → ℕ} {l : List ℕ} → k < targets p → Agrees p v at k → Linked p at v w → Completes p n (suc at) w l → Completes p (suc n) at v (k ∷ l)

-- Bindings: a code for each slot, 0 where the slot is not bound. v gives each bound slot its code.
abbrev pub Extends : List ℕ → (ℕ → ℕ) → Type 0
Extends b v = (x : ℕ) → (get_or b x 0 ≡ 0 → ⊥) → v x ≡ get_or b x 0
