-- A rule over the lengths of the summaries' heads: the rewritings are those with the question's head whose rows are over admitted summaries.
use mathlib.Core.Path.{◌≡◌, sym, ap, ◌∙◌, subst}
use mathlib.Core.Bool.{Bool, true, false}
use mathlib.Core.Logic.{◌↔◌}
use mathlib.Core.Option.{some}
use mathlib.Core.List.{List}
use Rattle.std.specs.Prelude.{None, Some}
use Prim.Native.Nat.{ℕ, ◌*◌, ◌<◌, ◌≤◌}
use native.Mathlib.Omega.{arith}
use lib.ListN.{length, get_or, drop, get_or-append}
use Rattle.spec.specs.Words.{Rule}
use Rattle.spec.specs.Summaries.{summary, OverAll}
use Rattle.spec.specs.Book.{Book, admitted_of}
use Rattle.spec.specs.RuleLayout.{rule_bytes, Layout}
use Rattle.spec.specs.BookLayout.{SoundBook, question_most}
use Rattle.spec.specs.Contents.{part_at}
use Rattle.spec.specs.Given.{at_front}
use Rattle.spec.specs.Truth.{RewritingRule}
use Rattle.spec.proofs.Bytes.RuleLaws.{layout-unique}
use Rattle.spec.proofs.Bytes.BookPasses.{question-reads}
use Rattle.spec.proofs.Lists.At.{get_or-in, in-get_or}
use Rattle.spec.proofs.Lists.Tests.{says_both}
use Rattle.spec.proofs.Bytes.HeadLengths.{width_is, laid_out}
use Rattle.choice_theory.specs.Numbered.{nothing}
use Rattle.codes.specs.Code.{term_code, codes_of}
use Rattle.codes.proofs.Padded.{codes-length}
use Rattle.rule_codes.specs.Laid.{LaidOver}
use Rattle.rule_codes.specs.Promises.{BodyCodes}
use Rattle.rule_codes.proofs.RuleLaid.{goals-counted, rule-there}
use Rattle.rule_codes.proofs.Stores.{front_length}
use Rattle.book_codes.specs.Question.{SomeSound}
use Rattle.search_meaning.proofs.AtCodes.{relation-at}
use Rattle.checker.specs.Lengths.{HeadsNeeds}
use Rattle.checker.specs.Tests.{LaidOut, SameHeads, AdmitsAll}
use Rattle.checker.specs.Proposed.{empty, ProposalSays, RowsReadNeeds}

-- nothing is proposed, for whatever reason
pub proposed-none : {book rewriting : List ℕ} → ((b : Book) → SoundBook book b → (rule : Rule ℕ) → RewritingRule b rule → rule_bytes rule ≡ rewriting → ⊥) → ProposalSays book rewriting None
proposed-none never = record { says = never }

module _ {book rewriting lengths : List ℕ} (heads : HeadsNeeds book lengths) where
  -- a rewriting is laid out over the lengths
  over-lengths : (b : Book) → SoundBook book b → (rule : Rule ℕ) → RewritingRule b rule → rule_bytes rule ≡ rewriting → Layout lengths question_most rewriting rule
  over-lengths b s rule is written = rw (heads.is b s, sym written) (laid_out b s rule is)

  pub none-laid : {r : Bool} → LaidOut lengths rewriting r → r ≡ false → ProposalSays book rewriting None
  none-laid l f = proposed-none (λ b s rule is written. says_both (l.exactly.1 (rule, over-lengths b s rule is written)) f)

  module _ {part : List ℕ} (second : part ≡ part_at book 1) {q : Bool} (h : SameHeads rewriting part q) where
    same_head : (b : Book) → SoundBook book b → (rule : Rule ℕ) → Layout lengths question_most rewriting rule → (q ≡ true) ↔ (rule.head ≡ b.question.head)
    same_head b s rule l = h.exactly lengths question_most rule l (part_at book 0) question_most b.question (rw second (question-reads s))

    pub none-headed : q ≡ false → ProposalSays book rewriting None
    none-headed f = proposed-none (λ b s rule is written. says_both ((same_head b s rule (over-lengths b s rule is written)).1 is.head) f)

    pub rows-given : SomeSound book → {r : Bool} → LaidOut lengths rewriting r → r ≡ true → q ≡ true → RowsReadNeeds book rewriting lengths
    rows-given w l t u = let o = l.exactly.0 t in record { sound = w; heads = heads; rule = o.0; layout = o.1; same = λ b s. (same_head b s o.0 o.1).0 u }

module _ {book rewriting lengths : List ℕ} (g : RowsReadNeeds book rewriting lengths) where
  pub rows-rule : ∥ LaidOver lengths rewriting ∥₁
  rows-rule = rule-there g.layout

  -- "1 to 12 subgoals"
  pub rows-goals : get_or rewriting 1 0 ≤ 12
  rows-goals = let few = g.layout.within.few in omega (arith, goals-counted g.layout)

  module _ {codes : List ℕ} {n : ℕ} (body : BodyCodes lengths rewriting term_code empty codes n) where
    count-is : n ≡ length g.rule.body
    count-is = body.count question_most g.rule g.layout

    codes-are : codes ≡ at_front (codes_of term_code g.rule.body) empty
    codes-are = body.codes question_most g.rule g.layout

    pub codes-there : 9 * n ≤ length codes
    codes-there =
        let few = g.layout.within.few in
        let all = codes-length term_code g.rule.body in
        omega (arith, count-is, ap length codes-are, front_length (codes_of term_code g.rule.body) empty (omega arith))

    -- the first code of a row is its summary's number
    number_at : (k : ℕ) → k < length g.rule.body → get_or codes (9 * k) 0 ≡ (get_or g.rule.body k nothing).relation
    number_at k h =
        ap (λ l. get_or l (9 * k) 0) codes-are
        ∙ get_or-append (codes_of term_code g.rule.body) (drop (length (codes_of term_code g.rule.body)) empty) 0 (9 * k) (omega (arith, codes-length term_code g.rule.body))
        ∙ relation-at term_code g.rule.body k h

    module _ {r : Bool} (says : AdmitsAll book codes n r) where
      module _ (t : r ≡ true) where
        over-all : (b : Book) → SoundBook book b → OverAll (admitted_of b) g.rule
        over-all b s x m =
            let p = in-get_or nothing _ m in
            let a = (says.exactly b s).0 t p.0 (omega (arith, count-is, p.1)) in
            let number : get_or codes (9 * p.0) 0 ≡ x.relation = number_at p.0 p.1 ∙ ap (λ y. y.relation) p.2 in
            let admitted : summary (admitted_of b) x.relation ≡ some a.0 = subst (λ k. summary (admitted_of b) k ≡ some a.0) number a.1 in
            record {
              rule = a.0;
              admitted = admitted;
              long = (g.layout.within.fit x m).long ∙ ap (λ l. get_or l x.relation 0) (g.heads.is b s) ∙ (width_is b.need b.summaries x.relation a.0 admitted).2;
            }

        pub rows-proposed : ProposalSays book rewriting (Some record { count = n; codes = codes })
        rows-proposed = record {
          says = λ b s. record {
            rule = g.rule;
            is = record { some = g.layout.within.some; few = g.layout.within.few; over = over-all b s; within = g.layout.within.body; head = g.same b s };
            written = g.layout.written;
            count = count-is;
            codes = codes-are;
          };
        }

      -- one row is over no admitted summary: no rule with these bytes is a rewriting
      pub rows-refused : r ≡ false → ProposalSays book rewriting None
      rows-refused f = proposed-none never
        where
          never : (b : Book) → SoundBook book b → (rule : Rule ℕ) → RewritingRule b rule → rule_bytes rule ≡ rewriting → ⊥
          never b s rule is written =
              let same : g.rule ≡ rule = layout-unique lengths question_most rewriting g.rule rule g.layout (over-lengths g.heads b s rule is written) in
              let over : OverAll (admitted_of b) g.rule = subst (OverAll (admitted_of b)) (sym same) is.over in
              says_both ((says.exactly b s).1 (λ k h. let l : k < length g.rule.body = omega (arith, count-is) in let o = over (get_or g.rule.body k nothing) (get_or-in nothing g.rule.body k l) in (o.rule, rw (number_at k l) o.admitted))) f
