-- A source and a target over terms as a task of placing, and the mappings that the task then asks for.
use Rattle.std.specs.Prelude.{◌≡◌, List, map, ℕ, suc, ◌<◌, ◌≤◌, length, get_or}
use Rattle.std.proofs.Math.Option.{some}
use Rattle.spec.specs.Words.{◌∈◌, Term, var, con, Subgoal, becomes, each}
use Rattle.spec.specs.Summaries.{place}
use Rattle.spec.specs.Answer.{AtPlaces}
use Rattle.spec.specs.BookLayout.{most_arity}
use Rattle.spec.specs.Table.{most_rows}
use Rattle.spec.specs.RuleLayout.{variables}
use Rattle.codes.specs.Code.{codes_of, widths_of, most_slots, uses_goals}
use Rattle.task.specs.Task.{Task, posed}
use Rattle.task.specs.Mapped.{use_of}

-- How a source's terms are codes. A code below 64 is a slot: it stands for a term, in each use for one of its own if it is 32 or more.
pub record Naming (S : Type 0) : Type 0 where
  pub code : S → ℕ
  -- the use that a term belongs to, where it is a use's own
  pub home : S → ℕ
  -- the term that a slot stands for in a use
  pub name : ℕ → ℕ → S

-- How a target's terms are codes.
pub record Coding (D : Type 0) : Type 0 where
  pub code : D → ℕ
  pub read : ℕ → D

-- The slot is bound: 0 stands for no code.
abbrev pub Bound : List ℕ → ℕ → Type 0
Bound b x = get_or b x 0 ≡ 0 → ⊥

-- The term stands in one of the subgoals.
abbrev pub TermIn : {A : Type 0} → A → List (Subgoal A) → Type 0
TermIn {A} t gs = (g : Subgoal A) × (g ∈ gs) × (t ∈ g.terms)

module _ {S D : Type 0} (n : Naming S) (c : Coding D) (src : List (Subgoal S)) (lasts : List ℕ) (tgt : List (Subgoal D)) (own : List ℕ) where
  abbrev pub task : Task
  task = posed (codes_of n.code src) (widths_of src) lasts (codes_of c.code tgt) own

  -- What the maker of a task sees to, so that the codes say what the terms say.
  pub record Ready (b : List ℕ) : Type 0 where
    -- a subgoal's codes have room for eight terms
    pub room : (g : Subgoal S) → g ∈ src → length g.terms ≤ most_arity
    -- a relation has one arity
    pub alike : (g : Subgoal S) (h : Subgoal D) → g ∈ src → h ∈ tgt → g.relation ≡ h.relation → length g.terms ≡ length h.terms
    pub rows : length own ≡ length tgt
    -- no two terms of the target have one code
    pub known : (d : D) → TermIn d tgt → c.read (c.code d) ≡ d
    -- a slot stands for the term whose code it is
    pub named : (t : S) → TermIn t src → n.code t < most_slots → n.name (n.home t) (n.code t) ≡ t
    pub shared : (u w x : ℕ) → x < variables → n.name u x ≡ n.name w x
    -- a use's own terms stand in that use alone
    pub apart : (i : ℕ) (g : Subgoal S) → place src (suc i) ≡ some g → (t : S) → t ∈ g.terms → variables ≤ n.code t → n.code t < most_slots → n.home t ≡ use_of task i
    -- a code that is no slot is that of a target's term
    pub kept : (t : S) → TermIn t src → most_slots ≤ n.code t → c.code (c.read (n.code t)) ≡ n.code t
    -- what is bound from the start: shared slots, to codes of the target's terms
    pub low : (x : ℕ) → Bound b x → x < variables
    pub slot : (x : ℕ) → Bound b x → n.code (n.name 0 x) ≡ x
    pub given : (x : ℕ) → Bound b x → c.code (c.read (get_or b x 0)) ≡ get_or b x 0

-- The source's terms have values that make each subgoal the target at its place (counted from 0), keep what is no slot, and extend the bindings.
pub record Valued {S D : Type 0} (n : Naming S) (c : Coding D) (src : List (Subgoal S)) (tgt : List (Subgoal D)) (b l : List ℕ) : Type 0 where
  pub value : S → D
  pub sends : AtPlaces tgt (map suc l) (map (each value) src)
  pub keeps : (t : S) → TermIn t src → most_slots ≤ n.code t → value t ≡ c.read (n.code t)
  pub extends : (x : ℕ) → Bound b x → value (n.name 0 x) ≡ c.read (get_or b x 0)

-- The same over terms of rules: variables have values, constants stay themselves. `names` says which variable a bound slot stands for.
pub record Sent {X Y : Type 0} (c : Coding (Term Y)) (names : ℕ → X) (src : List (Subgoal (Term X))) (tgt : List (Subgoal (Term Y))) (b l : List ℕ) : Type 0 where
  pub value : X → Term Y
  pub sends : AtPlaces tgt (map suc l) (map (each (becomes con value)) src)
  pub extends : (x : ℕ) → Bound b x → value (names x) ≡ c.read (get_or b x 0)

-- The source's variables are slots; a constant's code is the one that it has in the target.
pub record OverTerms {X Y : Type 0} (n : Naming (Term X)) (c : Coding (Term Y)) (names : ℕ → X) (src : List (Subgoal (Term X))) (b : List ℕ) : Type 0 where
  pub slots : (x : X) → TermIn (var x) src → n.code (var x) < most_slots
  pub constants : (k : ℕ) → TermIn (con k) src → most_slots ≤ n.code (con k)
  pub same : (k : ℕ) → TermIn (con k) src → c.read (n.code (con k)) ≡ con k
  pub named : (x : ℕ) → Bound b x → n.name 0 x ≡ var (names x)

-- What makes the task one that the search takes.
pub record SmallTask {S D : Type 0} (c : Coding D) (src : List (Subgoal S)) (lasts : List ℕ) (tgt : List (Subgoal D)) (own : List ℕ) : Type 0 where
  pub few : length src ≤ uses_goals
  pub many : length tgt ≤ 512
  pub room : (g : Subgoal S) → g ∈ src → length g.terms ≤ most_arity
  pub marked : length lasts ≡ length src
  pub rows : length own ≡ length tgt
  pub sets : (k : ℕ) → get_or own k 0 < most_rows
  pub solid : (d : D) → TermIn d tgt → c.code d ≡ 0 → ⊥
