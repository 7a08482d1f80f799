-- What the builders ask of the bytes that they are lent: that they are the layout of some rule, as those of an accepted entry are.
use Rattle.std.specs.Prelude.{◌≡◌, List, map, ℕ, length, take}
use Rattle.spec.specs.Words.{Term, Rule, DistinctVariables}
use Rattle.spec.specs.BookLayout.{Arities, question_most}
use Rattle.spec.specs.RuleLayout.{TermsWithin, Layout}
use Rattle.codes.specs.Code.{term_code}

-- A rule over some relations.
pub record Laid (bytes : List ℕ) : Type 0 where
  pub arities : List ℕ
  pub most : ℕ
  pub rule : Rule ℕ
  pub layout : Layout arities most bytes rule

-- A rule over these relations.
pub record LaidOver (arities bytes : List ℕ) : Type 0 where
  pub most : ℕ
  pub rule : Rule ℕ
  pub layout : Layout arities most bytes rule

-- A question over these relations.
pub record QuestionLaid (arities bytes : List ℕ) : Type 0 where
  pub known : Arities arities
  pub rule : Rule ℕ
  pub layout : Layout arities question_most bytes rule

-- A use of a summary: the bytes are the summary's, and the row has the codes of as many terms as its head.
pub record UseOf (arities bytes row : List ℕ) (v : Rule ℕ) (ts : List (Term ℕ)) : Type 0 where
  pub most : ℕ
  pub layout : Layout arities most bytes v
  pub plain : DistinctVariables v.head
  pub long : length ts ≡ length v.head
  pub within : TermsWithin ts
  pub codes : take (length ts) row ≡ map term_code ts

-- Some use, over some relations.
pub record SomeUse (bytes row : List ℕ) : Type 0 where
  pub arities : List ℕ
  pub rule : Rule ℕ
  pub terms : List (Term ℕ)
  pub is : UseOf arities bytes row rule terms

-- Some use over these relations.
pub record UseOver (arities bytes row : List ℕ) : Type 0 where
  pub rule : Rule ℕ
  pub terms : List (Term ℕ)
  pub is : UseOf arities bytes row rule terms
