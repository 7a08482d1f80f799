-- Tables of the variables' codes.
use Rattle.std.specs.Prelude.{◌≡◌, List, map, ℕ, ◌+◌, ◌<◌, length, get_or}
use Rattle.spec.specs.Words.{Term, Rule}
use Rattle.spec.specs.Summaries.{replaced}
use Rattle.spec.specs.RuleLayout.{TermWithin, variables}
use Rattle.codes.specs.Code.{term_code}
use Rattle.rule_codes.specs.Codes.{based, counted}
use Rattle.rule_codes.specs.Laid.{UseOf}

-- The first so many variables' codes count from the base on.
pub record BaseTable (base many : ℕ) (table : List ℕ) : Type 0 where
  pub long : length table ≡ variables
  pub code : (x : ℕ) → x < many → get_or table x 0 ≡ base + x

-- Some term has this code.
pub record TermCode (code : ℕ) : Type 0 where
  pub term : Term ℕ
  pub within : TermWithin term
  pub is : code ≡ term_code term

-- The same term's code where variables count from a base.
pub record OldCode (olds code result : ℕ) : Type 0 where
  pub is : (t : Term ℕ) → TermWithin t → code ≡ term_code t → result ≡ based olds t

-- "its head variables replaced by the given terms and its other variables fresh": as codes
pub record UseTable (bytes row : List ℕ) (olds base : ℕ) (table : List ℕ) : Type 0 where
  pub code : (arities : List ℕ) (v : Rule ℕ) (ts : List (Term ℕ)) → UseOf arities bytes row v ts → (x : ℕ) → x < variables → get_or table x 0 ≡ replaced v.head (map (based olds) ts) (counted base) x
