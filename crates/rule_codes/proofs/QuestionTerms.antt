-- A question's codes, and its terms among them.
use mathlib.Core.Path.{◌≡◌, sym, ap, ◌∙◌, subst}
use mathlib.Core.List.{List}
use Prim.Native.Nat.{ℕ, ◌*◌, ◌≤◌}
use native.Mathlib.Omega.{arith}
use lib.ListN.{length, take, drop}
use lib.Seq.{take_at, length-take-le}
use Rattle.spec.specs.Words.{Rule}
use Rattle.spec.specs.RuleLayout.{Layout}
use Rattle.spec.proofs.Bytes.Sizes.{terms-few}
use Rattle.codes.specs.Code.{variable_tag, term_code, codes_of}
use Rattle.codes.proofs.Padded.{codes-length}
use Rattle.rule_codes.specs.Codes.{tabled}
use Rattle.rule_codes.specs.InOrder.{TermAmong, InOrder}
use Rattle.rule_codes.specs.BodyTerms.{CodeOf, BodyTerms}
use Rattle.rule_codes.specs.Laid.{QuestionLaid}
use Rattle.rule_codes.specs.Promises.{BodyCodes}
use Rattle.rule_codes.specs.Tables.{BaseTable}
use Rattle.rule_codes.proofs.CodeLaws.{tabled-based, based-term, recoded}
use Rattle.rule_codes.proofs.Stores.{front_length}
use Rattle.rule_codes.proofs.TermCodes.{SmallSubgoals, terms-among}

module _ {arities bytes : List ℕ} (q : QuestionLaid arities bytes) where
  small : {most : ℕ} {r : Rule ℕ} → Layout arities most bytes r → SmallSubgoals r.body
  small l = record {
    relation = λ g i. let known = (l.within.fit g i).known in let few = q.known.few in omega arith;
    terms = λ g i. (terms-few q.known g (l.within.fit g i)).1;
  }

  module _ {table before after : List ℕ} {n : ℕ} (b : BaseTable variable_tag 32 table) (long : length before ≡ 108) (w : BodyCodes arities bytes (tabled table) before after n) where
    codes : BodyCodes arities bytes term_code before after n
    codes = recoded (tabled table) term_code (λ t h. tabled-based b t h ∙ based-term t) w

    all-long : {most : ℕ} {r : Rule ℕ} → Layout arities most bytes r → length (codes_of term_code r.body) ≡ 9 * n
    all-long {most} {r} l = codes-length term_code r.body ∙ ap (λ k. 9 * k) (sym (w.count most r l))

    pub used-few : 9 * n ≤ 108
    used-few = let same = w.count 12 q.rule q.layout in let few = q.layout.within.few in omega arith

    pub used-there : 9 * n ≤ length after
    used-there =
        let size = all-long q.layout in
        let few = used-few in
        let same = ap length (codes.codes 12 q.rule q.layout) ∙ front_length (codes_of term_code q.rule.body) before (omega arith) in
        omega arith

    pub used-long : length (take (9 * n) after) ≡ 9 * n
    used-long = length-take-le (9 * n) after used-there

    used : {most : ℕ} {r : Rule ℕ} → Layout arities most bytes r → take (9 * n) after ≡ codes_of term_code r.body
    used {most} {r} l = ap (take (9 * n)) (codes.codes most r l) ∙ take_at (codes_of term_code r.body) (drop (length (codes_of term_code r.body)) before) (9 * n) (all-long l)

    pub question-terms : {out out' : List ℕ} {m : ℕ} → InOrder (TermAmong (take (9 * n) after)) out out' m → BodyTerms arities bytes out out' m
    question-terms {out} {out'} {m} o = record { terms = terms }
      where
        terms : (most : ℕ) (r : Rule ℕ) → Layout arities most bytes r → InOrder (CodeOf r.body) out out' m
        terms most r l =
            let among = subst (λ ws. InOrder (TermAmong ws) out out' m) (used l) o in
            let same = terms-among r.body (small l) in
            record { list = among.list; written = among.written; count = among.count; rising = among.rising; members = λ x. (λ i. (same x).0 ((among.members x).0 i), λ h. (among.members x).1 ((same x).1 h)) }
