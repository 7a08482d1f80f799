-- What the steps of the builders ask and promise of terms and subgoals that stand at a place of bytes.
use Rattle.std.specs.Prelude.{◌≡◌, List, map, ℕ, ◌+◌, ◌≤◌, length, get_or}
use Rattle.std.proofs.lemmas.List.Edits.{sets}
use Rattle.spec.specs.Words.{Term, Subgoal, Rule}
use Rattle.spec.specs.RuleLayout.{Layout}
use Rattle.spec.proofs.Bytes.RulePlaces.{goal_start}
use Rattle.spec.proofs.Bytes.Standing.{TermAt, TermsAt}
use Rattle.codes.specs.Code.{padded, subgoal_codes}
use Rattle.rule_codes.specs.Codes.{tabled}

-- Some term stands there.
pub record SomeTerm (bytes : List ℕ) (at : ℕ) : Type 0 where
  pub term : Term ℕ
  pub here : TermAt bytes at term

-- So many terms stand there.
pub record Many (bytes : List ℕ) (at many : ℕ) (ts : List (Term ℕ)) : Type 0 where
  pub long : length ts ≡ many
  pub here : TermsAt bytes at ts

pub record SomeTerms (bytes : List ℕ) (at many : ℕ) : Type 0 where
  pub terms : List (Term ℕ)
  pub here : Many bytes at many terms

-- A subgoal of so many terms stands there.
pub record GoalAt (bytes : List ℕ) (at arity : ℕ) (g : Subgoal (Term ℕ)) : Type 0 where
  pub room : at + 1 ≤ length bytes
  pub relation : get_or bytes at 0 ≡ g.relation
  pub terms : Many bytes (at + 1) arity g.terms

pub record SomeGoal (bytes : List ℕ) (at arity : ℕ) : Type 0 where
  pub goal : Subgoal (Term ℕ)
  pub here : GoalAt bytes at arity goal

-- i subgoals are behind, and `at` is where the next one begins.
pub record WalkedTo (arities bytes : List ℕ) (i at : ℕ) : Type 0 where
  pub is : (most : ℕ) (r : Rule ℕ) → Layout arities most bytes r → at ≡ goal_start r i

module _ (bytes : List ℕ) (at : ℕ) where
  -- the code of the term there
  pub record CodeAt (table : List ℕ) (code : ℕ) : Type 0 where
    pub is : (t : Term ℕ) → TermAt bytes at t → code ≡ tabled table t

  -- code k of the terms there, 1 where they have ended
  pub record PaddedAt (many k : ℕ) (table : List ℕ) (code : ℕ) : Type 0 where
    pub is : (ts : List (Term ℕ)) → Many bytes at many ts → code ≡ get_or (map (tabled table) ts) k 1

  -- the codes of the terms there, filled up to eight
  pub record PaddedCodes (many : ℕ) (table codes : List ℕ) : Type 0 where
    pub is : (ts : List (Term ℕ)) → Many bytes at many ts → codes ≡ padded 8 (map (tabled table) ts)

  -- the area with the nine codes of the subgoal there, from `to` on
  pub record NineAt (arity to : ℕ) (table before after : List ℕ) : Type 0 where
    pub is : (g : Subgoal (Term ℕ)) → GoalAt bytes at arity g → after ≡ sets before to (subgoal_codes (tabled table) g)
