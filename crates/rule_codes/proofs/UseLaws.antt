-- The codes of one use of a summary: by its table, and by each code of crate codes.
use mathlib.Core.Path.{◌≡◌, refl, sym, ap, ap₂, ◌∙◌}
use mathlib.Core.Bool.{Bool, true, false, cond}
use mathlib.Core.Option.{some}
use mathlib.Core.List.Memᴰ
use mathlib.Core.List.{List, [], ◌∷◌, map, map-map}
use Prim.Native.Nat.{ℕ, ◌+◌, ◌*◌}
use native.Mathlib.Omega.{arith}
use lib.Dec.{eqb}
use Rattle.spec.specs.Words.{◌∈◌, Term, var, con, Subgoal, Rule, becomes}
use Rattle.spec.specs.Summaries.{Summaries, summary, or_empty, definition, Own, fresh, replaced, kept, in_use, in_place}
use Rattle.spec.specs.RuleLayout.{TermWithin}
use Rattle.spec.specs.Given.{at_front}
use Rattle.spec.proofs.Lists.Gathered.{map_same}
use Rattle.spec.proofs.Replaced.{replaced-all}
use Rattle.codes.specs.Code.{variable_tag, fresh_tag, own_code, own_slot, kept_slot, codes_of, widths_of}
use Rattle.rule_codes.specs.Codes.{tabled, based, counted, based_use}
use Rattle.rule_codes.specs.Laid.{UseOf}
use Rattle.rule_codes.specs.Promises.{BodyCodes}
use Rattle.rule_codes.specs.Uses.{UseCodes}
use Rattle.rule_codes.specs.Tables.{UseTable}
use Rattle.rule_codes.proofs.CodeLaws.{codes_same, codes-each, widths-each}

-- what stands for a variable, coded
replaced-coded : {A : Type 0} (code : A → ℕ) (ss : List (Term ℕ)) (ts : List A) (other : ℕ → A) (x : ℕ) → code (replaced ss ts other x) ≡ replaced ss (map code ts) (λ y. code (other y)) x
replaced-coded code [] ts other x = refl
replaced-coded code (s ∷ ss) [] other x = refl
replaced-coded code (var y ∷ ss) (t ∷ ts) other x = picked (eqb y x) (replaced-coded code ss ts other x)
  where
    picked : (b : Bool) → code (replaced ss ts other x) ≡ replaced ss (map code ts) (λ y. code (other y)) x
        → code (cond b t (replaced ss ts other x)) ≡ cond b (code t) (replaced ss (map code ts) (λ y. code (other y)) x)
    picked true e = refl
    picked false e = e
replaced-coded code (con c ∷ ss) (t ∷ ts) other x = replaced-coded code ss ts other x

module _ (s : Summaries) (u : ℕ) (g : Subgoal (Term ℕ)) (v : Rule ℕ) (e : summary s g.relation ≡ some v) where
  -- the codes of a use, over the summary's own terms
  use-each : (code : Term (Own ℕ) → ℕ) → codes_of code (in_place s u g) ≡ codes_of (λ t. code (becomes con (in_use s u g) t)) v.body
  use-each code =
      codes-each code (becomes con (in_use s u g)) (definition s g.relation).body
      ∙ ap (λ d. codes_of (λ t. code (becomes con (in_use s u g) t)) (or_empty d).body) e

  module _ (olds base : ℕ) where
    kept-based : (t : Term ℕ) → based_use olds base (becomes con kept t) ≡ based olds t
    kept-based (var x) = refl
    kept-based (con c) = refl

    variable-based : (x : ℕ) → based_use olds base (in_use s u g x) ≡ replaced v.head (map (based olds) g.terms) (counted base) x
    variable-based x =
        replaced-coded (based_use olds base) (definition s g.relation).head (map (becomes con kept) g.terms) (λ y. var (fresh u y)) x
        ∙ ap₂ (λ d l. replaced (or_empty d).head l (counted base) x) e (map-map (based_use olds base) (becomes con kept) g.terms ∙ map_same (λ t. based_use olds base (becomes con kept t)) (based olds) g.terms (λ t m. kept-based t))

    use-tabled : {arities bytes row table : List ℕ} → UseOf arities bytes row v g.terms → UseTable bytes row olds base table → codes_of (tabled table) v.body ≡ codes_of (based_use olds base) (in_place s u g)
    use-tabled {arities} {table = table} o w =
        codes_same (tabled table) (λ t. based_use olds base (becomes con (in_use s u g) t)) v.body (λ k i t j. same t (o.layout.within.body k i t j)) ∙ sym (use-each (based_use olds base))
      where
        same : (t : Term ℕ) → TermWithin t → tabled table t ≡ based_use olds base (becomes con (in_use s u g) t)
        same (var x) h = w.code arities v g.terms o x h ∙ sym (variable-based x)
        same (con c) h = refl

  -- codes that agree on the list's terms and on this use's own variables
  use-same : (c d : Term (Own ℕ) → ℕ) → ((t : Term ℕ) → c (becomes con kept t) ≡ d (becomes con kept t)) → ((x : ℕ) → c (var (fresh u x)) ≡ d (var (fresh u x))) → codes_of c (in_place s u g) ≡ codes_of d (in_place s u g)
  use-same c d olds own =
      use-each c ∙ codes_same (λ t. c (becomes con (in_use s u g) t)) (λ t. d (becomes con (in_use s u g) t)) v.body (λ k i t j. same t) ∙ sym (use-each d)
    where
      among : (t : Term (Own ℕ)) → t ∈ map (becomes con kept) g.terms → c t ≡ d t
      among t m = let a = Memᴰ.of_map (becomes con kept) g.terms m in ap c (sym a.2) ∙ olds a.0 ∙ ap d a.2

      same : (t : Term ℕ) → c (becomes con (in_use s u g) t) ≡ d (becomes con (in_use s u g) t)
      same (var x) = replaced-all (λ t. c t ≡ d t) (definition s g.relation).head (map (becomes con kept) g.terms) (λ y. var (fresh u y)) x among (own x)
      same (con n) = olds (con n)

module _ {arities bytes row before after : List ℕ} {n : ℕ} where
  -- by the table of a use: the codes of the use
  pub use-codes : {olds base : ℕ} {table : List ℕ} → UseTable bytes row olds base table → BodyCodes arities bytes (tabled table) before after n → (u : ℕ) → UseCodes arities bytes row (based_use olds base) u before after n
  use-codes {olds} {base} t w u = record {
    count = λ v ts o. w.count o.most v o.layout;
    codes = λ v s g o e. w.codes o.most v o.layout ∙ ap (λ ws. at_front ws before) (use-tabled s u g v e olds base o t);
  }

  recoded-use : (u : ℕ) (c d : Term (Own ℕ) → ℕ) → ((t : Term ℕ) → c (becomes con kept t) ≡ d (becomes con kept t)) → ((x : ℕ) → c (var (fresh u x)) ≡ d (var (fresh u x)))
      → UseCodes arities bytes row c u before after n → UseCodes arities bytes row d u before after n
  recoded-use u c d olds own w = record { count = w.count; codes = λ v s g o e. w.codes v s g o e ∙ ap (λ ws. at_front ws before) (use-same s u g v e c d olds own) }

  -- the three codes, each by its two bases
  pub as_own : (u : ℕ) → UseCodes arities bytes row (based_use variable_tag (fresh_tag + 32 * u)) u before after n → UseCodes arities bytes row own_code u before after n
  as_own u = recoded-use u (based_use variable_tag (fresh_tag + 32 * u)) own_code (elim [ var x ↦ refl | con c ↦ refl ]) (λ x. omega arith)

  pub as-slots : (u : ℕ) → UseCodes arities bytes row (based_use 0 32) u before after n → UseCodes arities bytes row own_slot u before after n
  as-slots u = recoded-use u (based_use 0 32) own_slot (elim [ var x ↦ omega arith | con c ↦ refl ]) (λ x. refl)

  pub as-kept : (u : ℕ) → UseCodes arities bytes row (based_use variable_tag 0) u before after n → UseCodes arities bytes row kept_slot u before after n
  as-kept u = recoded-use u (based_use variable_tag 0) kept_slot (elim [ var x ↦ refl | con c ↦ refl ]) (λ x. omega arith)

-- a use has the widths of its summary's body
pub use-widths : (s : Summaries) (u : ℕ) (g : Subgoal (Term ℕ)) (v : Rule ℕ) → summary s g.relation ≡ some v → widths_of (in_place s u g) ≡ widths_of v.body
use-widths s u g v e = widths-each (becomes con (in_use s u g)) (definition s g.relation).body ∙ ap (λ d. widths_of (or_empty d).body) e
