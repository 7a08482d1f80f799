-- The target of a question's task: its terms in order, then its body behind them.
use mathlib.Core.Path.{◌≡◌, sym, ap, ◌∙◌}
use mathlib.Core.List.{List, [], ◌++◌, map}
use Prim.Native.Nat.{ℕ, ◌+◌, ◌*◌, ◌-◌, ◌≤◌}
use native.Mathlib.Omega.{arith}
use lib.ListN.{length, get_or, take, drop, length-append, length-map}
use lib.Seq.{length-take-le}
use Rattle.spec.specs.Words.{Term, Rule}
use Rattle.spec.specs.RuleLayout.{Layout}
use Rattle.spec.specs.BookLayout.{question_most}
use Rattle.spec.specs.Given.{at_front}
use Rattle.codes.specs.Code.{term_code, codes_of}
use Rattle.codes.proofs.Padded.{codes-length, codes-append}
use Rattle.rule_codes.specs.InOrder.{InOrder}
use Rattle.rule_codes.specs.BodyTerms.{CodeOf, BodyTerms}
use Rattle.rule_codes.specs.Laid.{QuestionLaid}
use Rattle.rule_codes.specs.Promises.{BodyCodes}
use Rattle.rule_codes.proofs.RuleLaid.{goals-counted}
use Rattle.rule_codes.proofs.Stores.{front_length, front-again}
use Rattle.summary_rows.specs.RowTask.{alone, TermsOf}
use Rattle.row_list.specs.Alone.{alone_codes}
use Rattle.row_list.specs.Tasks.{TargetCodes}
use Rattle.row_list.proofs.AloneLaws.{alone-codes}
use Rattle.row_list.proofs.Behind.{mid-long, behind}
use Rattle.spec.proofs.Lists.Parts.{part-long}
use Rattle.row_list.proofs.TermsListed.{terms_of, terms-codes, terms-of}

module _ {relations bytes : List ℕ} (laid : QuestionLaid relations bytes) {zeros terms : List ℕ} {n : ℕ} (room : length zeros ≡ 108) (listed : BodyTerms relations bytes zeros terms n) where
  in_order : (q : Rule ℕ) → Layout relations question_most bytes q → InOrder (CodeOf q.body) zeros terms n
  in_order q l = listed.terms question_most q l

  pub term_list : (q : Rule ℕ) → Layout relations question_most bytes q → List (Term ℕ)
  term_list q l = terms_of laid.known l.within (in_order q l)

  all-terms : (q : Rule ℕ) (l : Layout relations question_most bytes q) → TermsOf q (term_list q l)
  unfolding term_list
  all-terms q l = terms-of laid.known l.within (in_order q l)

  as-codes : (q : Rule ℕ) (l : Layout relations question_most bytes q) → map term_code (term_list q l) ≡ (in_order q l).list
  unfolding term_list
  as-codes q l = terms-codes laid.known l.within (in_order q l)

  terms-count : (q : Rule ℕ) (l : Layout relations question_most bytes q) → n ≡ length (term_list q l)
  terms-count q l = (in_order q l).count ∙ ap length (sym (as-codes q l)) ∙ length-map (term_list q l) term_code

  pub terms-few : n ≤ 96
  terms-few = omega (arith, terms-count laid.rule laid.layout, (all-terms laid.rule laid.layout).few)

  pub terms-long : length terms ≡ 108
  terms-long =
      let o = in_order laid.rule laid.layout in
      ap length o.written ∙ front_length o.list zeros (omega (arith, o.count, terms-few)) ∙ room

  pub shown-long : length (take n terms) ≡ n
  shown-long = length-take-le n terms (omega (arith, terms-long, terms-few))

  shown : (q : Rule ℕ) (l : Layout relations question_most bytes q) → take n terms ≡ map term_code (term_list q l)
  shown q l = front-again (in_order q l).list zeros _ n (in_order q l).written (sym (in_order q l).count) ∙ sym (as-codes q l)

  pub terms-room : {area : ℕ} → 972 ≤ area → 9 * length (take n terms) ≤ area
  terms-room r = omega (arith, shown-long, terms-few)

  module _ (target mid : List ℕ) (area : 972 ≤ length target) (written : mid ≡ at_front (alone_codes (take n terms)) target) where
    first-long : (q : Rule ℕ) (l : Layout relations question_most bytes q) → length (codes_of term_code (map alone (term_list q l))) ≡ 9 * n
    first-long q l = codes-length term_code (map alone (term_list q l)) ∙ omega (arith, length-map (term_list q l) alone, terms-count q l)

    first-written : (q : Rule ℕ) (l : Layout relations question_most bytes q) → mid ≡ at_front (codes_of term_code (map alone (term_list q l))) target
    first-written q l = written ∙ ap (λ x. at_front x target) (ap alone_codes (shown q l) ∙ alone-codes term_code (term_list q l))

    body-fits : (q : Rule ℕ) → Layout relations question_most bytes q → 9 * n + length (codes_of term_code q.body) ≤ length target
    body-fits q l = let few = l.within.few in omega (arith, codes-length term_code q.body, terms-few)

    target-long : length mid ≡ length target
    target-long =
        let q = laid.rule in
        let l = laid.layout in
        mid-long (codes_of term_code (map alone (term_list q l))) (codes_of term_code q.body) target mid [] (9 * n) (first-long q l) (body-fits q l) (first-written q l)

    pub target-part : 9 * n ≤ length mid
    target-part = omega (arith, target-long, terms-few)

    pub target_room : 9 * get_or bytes 1 0 ≤ length (take (length mid - 9 * n) (drop (9 * n) mid))
    target_room = let few = laid.layout.within.few in omega (arith, goals-counted laid.layout, part-long (9 * n) mid, target-long, terms-few)

    module _ {part : List ℕ} {k : ℕ} (codes : BodyCodes relations bytes term_code (take (length mid - 9 * n) (drop (9 * n) mid)) part k) where
      pub target-goals : n + k ≤ 108
      target-goals = let few = laid.layout.within.few in omega (arith, terms-few, codes.count question_most laid.rule laid.layout)

      pub target-codes : TargetCodes relations bytes target (take (9 * n) mid ++ (part ++ drop (length mid - 9 * n) (drop (9 * n) mid))) (n + k)
      target-codes = record {
        terms = term_list;
        all = all-terms;
        count = λ q l. omega (arith, terms-count q l, codes.count question_most q l, length-append (map alone (term_list q l)) q.body, length-map (term_list q l) alone);
        codes = λ q l.
            behind (codes_of term_code (map alone (term_list q l))) (codes_of term_code q.body) target mid part (9 * n) (first-long q l) (body-fits q l) (first-written q l) (codes.codes question_most q l)
            ∙ ap (λ x. at_front x target) (sym (codes-append term_code (map alone (term_list q l)) q.body));
      }
