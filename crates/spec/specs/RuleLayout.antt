-- A rule as bytes, and the bounds of a rule.
use Rattle.std.specs.Prelude.{◌≡◌, List, ◌∷◌, ◌++◌, map, ℕ, ◌<◌, ◌≤◌, length}
use Rattle.spec.specs.Words.{◌∈◌, Term, var, con, Subgoal, Rule, AllFit}
use Rattle.spec.specs.Summaries.{joined}
use Rattle.spec.specs.Numbers.{little}

-- "A term: one byte 0 (variable) or 1 (constant), then four bytes."
abbrev pub term_bytes : Term ℕ → List ℕ
term_bytes (var v) = 0 ∷ little 4 v
term_bytes (con c) = 1 ∷ little 4 c

abbrev pub terms_bytes : List (Term ℕ) → List ℕ
terms_bytes ts = joined (map term_bytes ts)

-- "each subgoal: one byte relation number, its terms"
abbrev pub subgoal_bytes : Subgoal (Term ℕ) → List ℕ
subgoal_bytes g = g.relation ∷ terms_bytes g.terms

abbrev pub subgoals_bytes : List (Subgoal (Term ℕ)) → List ℕ
subgoals_bytes gs = joined (map subgoal_bytes gs)

-- "A rule: one byte head length, one byte subgoal count .., the head's terms, then each subgoal"
abbrev pub rule_bytes : Rule ℕ → List ℕ
rule_bytes r = length r.head ∷ length r.body ∷ terms_bytes r.head ++ subgoals_bytes r.body

-- "a variable, numbered 0 to 31": how many there are
abbrev pub variables : ℕ
variables = 32

-- "A term is a variable, numbered 0 to 31, or a constant, any 32-bit number."
abbrev pub TermWithin : Term ℕ → Type 0
TermWithin (var v) = v < variables
TermWithin (con c) = c < 4294967296

abbrev pub TermsWithin : List (Term ℕ) → Type 0
TermsWithin ts = (t : Term ℕ) → t ∈ ts → TermWithin t

-- "a head (0 to 8 terms)"
abbrev pub most_head : ℕ
most_head = 8

-- The head within its bound; "subgoal count (question 1 to 12, summary 1 to 8)": at most `most`; each subgoal of a relation there is, as long as its arity.
pub record RuleWithin (arities : List ℕ) (most : ℕ) (r : Rule ℕ) : Type 0 where
  pub short : length r.head ≤ most_head
  pub some : 1 ≤ length r.body
  pub few : length r.body ≤ most
  pub head : TermsWithin r.head
  pub fit : AllFit arities r.body
  pub body : (g : Subgoal (Term ℕ)) → g ∈ r.body → TermsWithin g.terms

-- The bytes are the layout of the rule, which is within the bounds.
pub record Layout (arities : List ℕ) (most : ℕ) (bytes : List ℕ) (r : Rule ℕ) : Type 0 where
  pub within : RuleWithin arities most r
  pub written : rule_bytes r ≡ bytes
