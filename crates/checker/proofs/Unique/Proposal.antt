-- Any two results that meet the promise are the same.
use mathlib.Core.Path.{◌≡◌, refl, sym, ap, ◌∙◌}
use mathlib.Core.List.{List}
use Rattle.std.specs.Prelude.{Option, None, Some}
use Prim.Native.Nat.{ℕ}
use lib.ListN.{length}
use Rattle.spec.specs.Words.{Rule}
use Rattle.spec.specs.Given.{at_front}
use Rattle.outcomes.proofs.AsRule.{rule-once}
use Rattle.codes.specs.Code.{term_code, codes_of}
use Rattle.book_codes.specs.Question.{SomeSound}
use Rattle.checker.specs.declared.proposal.Proposal.{Proposal}
use Rattle.checker.specs.Proposed.{empty, IsProposed, ProposalSays}

module _ {book rewriting : List ℕ} (w : SomeSound book) where
  both : (r o : Proposal) → IsProposed w.value rewriting r → IsProposed w.value rewriting o → r ≡ o
  both r o x y =
      let same : x.rule ≡ y.rule = rule-once w.value w.sound rewriting x.rule y.rule x.is y.is x.written y.written in
      let count : r.count ≡ o.count = x.count ∙ ap (λ (v : Rule ℕ). length v.body) same ∙ sym y.count in
      let codes : r.codes ≡ o.codes = x.codes ∙ ap (λ (v : Rule ℕ). at_front (codes_of term_code v.body) empty) same ∙ sym y.codes in
      λ i. record { count = count i; codes = codes i }

  pub proposed-once : (r o : Option Proposal) → ProposalSays book rewriting r → ProposalSays book rewriting o → r ≡ o
  proposed-once None None p q = refl
  proposed-once None (Some o) p q = let y = q.says w.value w.sound in absurd (p.says w.value w.sound y.rule y.is y.written)
  proposed-once (Some r) None p q = let x = p.says w.value w.sound in absurd (q.says w.value w.sound x.rule x.is x.written)
  proposed-once (Some r) (Some o) p q = ap Some (both r o (p.says w.value w.sound) (q.says w.value w.sound))
