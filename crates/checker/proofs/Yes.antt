-- What is proposed and confirmed is true, and what is true is.
use mathlib.Core.Path.{◌≡◌, sym, ap, ◌∙◌, subst}
use mathlib.Core.Bool.{Bool, false}
use mathlib.Core.List.{List}
use Rattle.std.specs.Prelude.{Option, None, Some, Result, Ok, Err}
use Prim.Native.Nat.{ℕ, ◌*◌}
use native.Mathlib.Omega.{arith}
use lib.ListN.{length}
use Rattle.spec.specs.Words.{Rule}
use Rattle.spec.specs.Summaries.{or_empty, rewriting}
use Rattle.spec.specs.Answer.{There, Back}
use Rattle.spec.specs.Book.{Book, admitted_of}
use Rattle.spec.specs.Reading.{ReadingSays}
use Rattle.spec.specs.declared.Refused.{Refused}
use Rattle.spec.specs.Truth.{RewritingRule, Truth, Checks}
use Rattle.spec.proofs.Bytes.BookUnique.{book-unique}
use Rattle.spec.proofs.Bytes.Refused.{sound-unrefused}
use Rattle.outcomes.proofs.AsRule.{rule-once}
use Rattle.codes.specs.Code.{term_code, codes_of}
use Rattle.codes.proofs.Padded.{codes-length}
use Rattle.rule_codes.proofs.Stores.{front-again}
use Rattle.book_codes.specs.Question.{SomeSound}
use Rattle.book_codes.specs.FewRows.{FewRowsOf, FewRows}
use Rattle.bits.proofs.Laws.{exactly-no}
use Rattle.checker.specs.Proposed.{IsProposed, Proposed, ProposalSays, empty}
use Rattle.checker.specs.declared.proposal.Proposal.{Proposal}
use Rattle.checker.specs.Steps.{Witness, ConfirmSays}

module _ {book bytes : List ℕ} {o : Option Proposal} (p : ProposalSays book bytes o) where
  -- no rule: nothing is true of it
  pub no-rule : {witness : List ℕ} → o ≡ None → Checks book bytes witness false
  no-rule e = record { exactly = exactly-no (λ t. subst (Proposed t.value bytes) e (p.says t.value t.sound) t.rule t.is t.written) }

  module _ {r : Proposal} (w : SomeSound book) (is : o ≡ Some r) where
    abbrev b : Book
    b = w.value

    it : IsProposed b bytes r
    it = subst (Proposed b bytes) is (p.says b w.sound)

    abbrev q : Rule ℕ
    q = b.question

    few-of : FewRowsOf book r.codes r.count b it.rule.body
    few-of = record {
      rows_of = record {
        sound = w.sound;
        within = record { over = λ g m. let o = it.is.over g m in (o.rule, o.admitted); within = it.is.within };
        long = λ g m. let o = it.is.over g m in o.long ∙ sym (ap (λ x. length (or_empty x).head) o.admitted);
        count = sym it.count;
        codes = front-again (codes_of term_code it.rule.body) empty r.codes (9 * r.count) it.codes (codes-length term_code it.rule.body ∙ ap (λ n. 9 * n) (sym it.count));
      };
      few = let f = it.is.few in omega (arith, it.count);
    }

    pub few : FewRows book r.codes r.count
    few = record { value = b; list = it.rule.body; is = few-of }

    -- a rule with the question's head is its body read as a rewriting
    as-rewriting : it.rule ≡ rewriting q it.rule.body
    as-rewriting = λ i. record { head = it.is.head i; body = it.rule.body }

    module _ {witness : List ℕ} {answer : Bool} (c : ConfirmSays book r.codes r.count witness answer) where
      truth : Witness b it.rule.body witness → Truth book bytes witness
      truth y = record {
        value = b;
        sound = w.sound;
        rule = it.rule;
        written = it.written;
        is = it.is;
        there = y.there;
        back = y.back;
        whole = y.whole;
        goes = subst (λ x. There (admitted_of b) q x y.there) (sym as-rewriting) y.goes;
        returns = subst (λ x. Back (admitted_of b) q x y.back) (sym as-rewriting) y.returns;
      }

      only : Truth book bytes witness → Witness b it.rule.body witness
      only t = record {
        there = t.there;
        back = t.back;
        whole = t.whole;
        goes = subst (λ x. There (admitted_of b) q x t.there) same (subst (λ (v : Book). There (admitted_of v) v.question t.rule t.there) value t.goes);
        returns = subst (λ x. Back (admitted_of b) q x t.back) same (subst (λ (v : Book). Back (admitted_of v) v.question t.rule t.back) value t.returns);
      }
        where
          value : t.value ≡ b
          value = book-unique t.sound w.sound

          same : t.rule ≡ rewriting q it.rule.body
          same = rule-once b w.sound bytes t.rule it.rule (subst (λ v. RewritingRule v t.rule) value t.is) it.is t.written it.written ∙ as-rewriting

      pub confirmed : Checks book bytes witness answer
      confirmed = let e = c.exactly b it.rule.body few-of in record { exactly = (λ y. truth (e.0 y), λ t. e.1 (only t)) }

-- what the reading says, case by case
module _ {book : List ℕ} {r : Result Unit Refused} (says : ReadingSays book r) where
  pub read-sound : {u : Unit} → r ≡ Ok u → SomeSound book
  read-sound e = let v = subst (ReadingSays book) e says in record { value = v.0; sound = v.1 }

  pub read-refused : {bytes witness : List ℕ} {why : Refused} → r ≡ Err why → Checks book bytes witness false
  read-refused e = record { exactly = exactly-no (λ t. sound-unrefused t.sound (subst (ReadingSays book) e says)) }
