-- What is asked and promised of a rule whose bytes and relations are lent as one.
use Rattle.std.specs.Prelude.{List, ℕ, ◌*◌, ◌≤◌, get_or}
use Rattle.spec.specs.Words.{Term}
use Rattle.spec.specs.Summaries.{Own}
use Rattle.rule_codes.specs.BodyTerms.{BodyTerms}
use Rattle.rule_codes.specs.Laid.{UseOver}
use Rattle.rule_codes.specs.Promises.{BodyCodes, BodyWidths}
use Rattle.rule_codes.specs.Uses.{UseCodes}
use Rattle.rule_codes.specs.declared.Body.{Body}

module _ (b : Body) where
  -- "one byte subgoal count"
  abbrev pub goals_of : ℕ
  goals_of = get_or b.bytes.now 1 0

  -- room in an area for so many codes a subgoal
  abbrev pub RoomFor : ℕ → ℕ → Type 0
  RoomFor each area = each * goals_of ≤ area

  -- the row is one of the summary whose bytes these are
  abbrev pub UsedBy : List ℕ → Type 0
  UsedBy row = UseOver b.relations.now b.bytes.now row

  -- the subgoals' codes, and how many terms each has, at the fronts of areas
  abbrev pub CodesPut : (Term ℕ → ℕ) → List ℕ → List ℕ → ℕ → Type 0
  CodesPut code before after n = BodyCodes b.relations.now b.bytes.now code before after n

  abbrev pub WidthsPut : List ℕ → List ℕ → ℕ → Type 0
  WidthsPut before after n = BodyWidths b.relations.now b.bytes.now before after n

  -- the codes of use u for a row
  abbrev pub UsePut : List ℕ → (Term (Own ℕ) → ℕ) → ℕ → List ℕ → List ℕ → ℕ → Type 0
  UsePut row code u before after n = UseCodes b.relations.now b.bytes.now row code u before after n

  -- the terms in order
  abbrev pub TermsPut : List ℕ → List ℕ → ℕ → Type 0
  TermsPut before after n = BodyTerms b.relations.now b.bytes.now before after n
