-- Rows by the places of the head: the first few source subgoals of a task of one use are the head's places, and the targets of these are terms in ascending order.
use Rattle.std.specs.Prelude.{◌≡◌, ◌↔◌, Bool, true, List, [], ◌∷◌, ◌++◌, ℕ, ◌+◌, ◌*◌, ◌-◌, ◌<◌, ◌≤◌, length, get_or, set, take, drop, replicate, Option, MatchOption}
use Rattle.spec.specs.Order.{ListBefore, First}
use Rattle.spec.specs.RuleLayout.{most_head}
use Rattle.codes.specs.Code.{most_slots, subgoal_size, uses_goals}
use Rattle.task.specs.Task.{Task, Sized, goals, targets, source_relation, target_relation, width_of, last_of, Agrees, Completes}
use Rattle.task.specs.Mapped.{Mapped}

-- the one term of a place of the head
abbrev pub head_term : Task → ℕ → ℕ
head_term p i = get_or p.source (subgoal_size * i + 1) 0

-- A task of rows: one use, and the first h source subgoals have one term each.
pub record HeadTask (p : Task) (h : ℕ) : Type 0 where
  pub sized : Sized p
  pub one_use : (i : ℕ) → last_of p i ≡ 0
  pub single : (i : ℕ) → i < h → width_of p i ≡ 1
  pub inside : h ≤ goals p
  -- "a head (0 to 8 terms)"
  pub short : h ≤ most_head
  -- "a rule whose head is distinct variables"
  pub slots : (i : ℕ) → i < h → head_term p i < most_slots
  pub apart : (i k : ℕ) → i < k → k < h → head_term p i ≡ head_term p k → ⊥
  -- "every head variable stands in the body": where the body has its targets, each place of the head has one
  pub safe : (v : ℕ → ℕ) (l : List ℕ) → Completes p (goals p - h) h v l → (i : ℕ) → i < h → ∥ ((k : ℕ) × (k < targets p) × Agrees p v i k) ∥₁

-- js are the places of the first h source subgoals in some mapping of all
pub record RowPlaces (p : Task) (h : ℕ) (js : List ℕ) : Type 0 where
  pub rest : List ℕ
  pub long : length js ≡ h
  pub mapped : Mapped p [] (js ++ rest)

-- .. and come after those that ks begins with
pub record LaterPlaces (p : Task) (h : ℕ) (ks js : List ℕ) : Type 0 where
  pub row : RowPlaces p h js
  pub after : ListBefore ◌<◌ (take h ks) js

-- .. and begin with the first j of ks
pub record PlacesWith (p : Task) (h j : ℕ) (ks js : List ℕ) : Type 0 where
  pub row : RowPlaces p h js
  pub begins : take j js ≡ take j ks

-- ks begins with the first of the rows that are ok; behind it stays what stood there before.
pub record FirstRow (Ok : List ℕ → Type 0) (h : ℕ) (before ks : List ℕ) : Type 0 where
  pub first : First Ok (ListBefore ◌<◌) (take h ks)
  pub behind : drop h ks ≡ drop h before

-- the first of them, or that there is none
abbrev pub FirstOrNone : (List ℕ → Type 0) → ℕ → List ℕ → Option (List ℕ) → Type 0
FirstOrNone Ok h before r = MatchOption r ((js : List ℕ) → Ok js → ⊥) (FirstRow Ok h before)

abbrev pub StartPlaces : Task → ℕ → Option (List ℕ) → Type 0
StartPlaces p h = FirstOrNone (RowPlaces p h) h (replicate uses_goals 0)

abbrev pub NextPlaces : Task → ℕ → List ℕ → Option (List ℕ) → Type 0
NextPlaces p h ks = FirstOrNone (LaterPlaces p h ks) h ks

-- ks begins with a row's places
abbrev pub NextRowNeeds : Task → ℕ → List ℕ → Type 0
NextRowNeeds p h ks = RowPlaces p h (take h ks)

-- some row's places begin with js
pub record RowFront (p : Task) (h : ℕ) (js : List ℕ) : Type 0 where
  pub more : List ℕ
  pub row : RowPlaces p h (js ++ more)

-- the first j of ks are such
pub record FrontNeeds (p : Task) (h j : ℕ) (ks : List ℕ) : Type 0 where
  pub few : j ≤ h
  pub front : RowFront p h (take j ks)

-- The first j of ks are targets of the head's relation, so some row may begin with them; and whether one does.
pub record OnTargets (p : Task) (h j : ℕ) (ks : List ℕ) : Type 0 where
  pub few : j ≤ h
  pub within : (i : ℕ) → i < j → get_or ks i 0 < targets p
  pub relation : (i : ℕ) → i < j → target_relation p (get_or ks i 0) ≡ source_relation p i

pub record Begins (p : Task) (h j : ℕ) (ks : List ℕ) (answer : Bool) : Type 0 where
  pub exactly : (answer ≡ true) ↔ RowFront p h (take j ks)

-- Behind the first j of ks some row has the place k, which is `from` or a later one.
pub record RowGoesOn (p : Task) (h j : ℕ) (ks : List ℕ) (from k : ℕ) : Type 0 where
  pub later : from ≤ k
  pub front : RowFront p h (take j ks ++ (k ∷ []))

-- The first such place, put behind them, or that there is none.
pub record PlacePut (p : Task) (h j : ℕ) (ks : List ℕ) (from : ℕ) (front : List ℕ) : Type 0 where
  pub place : ℕ
  pub put : front ≡ set ks j place
  pub first : First (RowGoesOn p h j ks from) ◌<◌ place

abbrev pub NextPlace : Task → ℕ → ℕ → List ℕ → ℕ → Option (List ℕ) → Type 0
NextPlace p h j ks from r = MatchOption r ((k : ℕ) → RowGoesOn p h j ks from k → ⊥) (PlacePut p h j ks from)
