-- The codes of crate codes as namings of a source's terms and codings of a target's terms.
use Rattle.std.specs.Prelude.{◌≡◌, cond, List, ℕ, ◌+◌, ◌-◌, ◌/◌, ◌%◌, ◌<◌, ◌≤◌, ltb, length, get_or}
use Rattle.spec.specs.Words.{◌∈◌, Term, var, con, Subgoal}
use Rattle.spec.specs.Summaries.{Own, old, fresh}
use Rattle.spec.specs.RuleLayout.{TermWithin, variables}
use Rattle.spec.specs.BookLayout.{most_arity}
use Rattle.codes.specs.Code.{variable_tag, constant_tag, fresh_tag, term_code, own_code, slot_code, own_slot, kept_slot}
use Rattle.search_meaning.specs.Coded.{Naming, Coding, Bound, TermIn}

-- a rule as a source
abbrev pub slot_naming : Naming (Term ℕ)
slot_naming = record { code = slot_code; home = λ t. 0; name = λ u x. var x }

-- an expansion as a source
abbrev pub home_of : Term (Own ℕ) → ℕ
home_of (var (old x)) = 0
home_of (var (fresh u x)) = u
home_of (con c) = 0

abbrev pub own_named : ℕ → ℕ → Term (Own ℕ)
own_named u x = cond (ltb x variables) (var (old x)) (var (fresh u (x - variables)))

abbrev pub own_naming : Naming (Term (Own ℕ))
own_naming = record { code = own_slot; home = home_of; name = own_named }

-- the use numbered u as a source that keeps the list's terms
abbrev pub kept_naming : ℕ → Naming (Term (Own ℕ))
kept_naming u = record { code = kept_slot; home = λ t. 0; name = λ w x. var (fresh u x) }

-- a rule as a target
abbrev pub read_term : ℕ → Term ℕ
read_term w = cond (ltb w constant_tag) (var (w - variable_tag)) (con (w - constant_tag))

abbrev pub term_coding : Coding (Term ℕ)
term_coding = record { code = term_code; read = read_term }

-- an expansion as a target
abbrev pub read_own : ℕ → Term (Own ℕ)
read_own w = cond (ltb w constant_tag) (var (old (w - variable_tag))) (cond (ltb w fresh_tag) (con (w - constant_tag)) (var (fresh ((w - fresh_tag) / variables) ((w - fresh_tag) % variables))))

abbrev pub own_coding : Coding (Term (Own ℕ))
own_coding = record { code = own_code; read = read_own }

-- "a variable, numbered 0 to 31, or a constant, any 32-bit number": of an expansion
abbrev pub OwnWithin : Term (Own ℕ) → Type 0
OwnWithin (var (old x)) = x < variables
OwnWithin (var (fresh u x)) = x < variables
OwnWithin (con c) = c < 4294967296

-- What makes the codes of a rule's subgoals, as a source, and a target's codes fit each other. A question and a summary are such sources.
pub record RuleSource {Y : Type 0} (c : Coding (Term Y)) (src : List (Subgoal (Term ℕ))) (tgt : List (Subgoal (Term Y))) (own b : List ℕ) : Type 0 where
  pub room : (g : Subgoal (Term ℕ)) → g ∈ src → length g.terms ≤ most_arity
  pub alike : (g : Subgoal (Term ℕ)) (h : Subgoal (Term Y)) → g ∈ src → h ∈ tgt → g.relation ≡ h.relation → length g.terms ≡ length h.terms
  pub rows : length own ≡ length tgt
  pub source : (t : Term ℕ) → TermIn t src → TermWithin t
  pub target : (d : Term Y) → TermIn d tgt → c.read (c.code d) ≡ d
  -- constants have one code in source and target
  pub constants : (k : ℕ) → k < 4294967296 → (c.code (con k) ≡ constant_tag + k) × (c.read (constant_tag + k) ≡ con k)
  pub low : (x : ℕ) → Bound b x → x < variables
  pub given : (x : ℕ) → Bound b x → c.code (c.read (get_or b x 0)) ≡ get_or b x 0
