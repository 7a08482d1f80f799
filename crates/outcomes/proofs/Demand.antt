-- Demand 3 of what a book of bytes is given, and what a summary left out has no say in.
use mathlib.Core.Path.{◌≡◌, sym, ap, ◌∙◌, subst}
use mathlib.Core.Logic.{◌↔◌}
use mathlib.Core.List.{List, map}
use Prim.Native.Nat.{ℕ, ◌<◌, ◌≤◌}
use lib.ListN.{length}
use Rattle.spec.specs.Words.{Subgoal, Rule, Facts, Listed, AllFit, Yields, itself}
use Rattle.spec.specs.Summaries.{Summaries, HoldJust, rewriting}
use Rattle.spec.specs.Book.{Book, admitted_of}
use Rattle.spec.specs.Demand.{OverAdmitted, Demand3, DiffersSomewhere}
use Rattle.spec.specs.LeftOut.{SameButLeftOut}
use Rattle.spec.specs.BookLayout.{SoundBook}
use Rattle.spec.specs.Refusals.{of_book}
use Rattle.spec.specs.Table.{RewriterRefusal, read, nine, ten, Fault9, Fault10}
use Rattle.spec.specs.Given.{Given}
use Rattle.spec.proofs.Decided.Answered.{right_unique}
use Rattle.spec.proofs.Bytes.BookUnique.{book-unique}
use Rattle.spec.proofs.Bytes.Refused.{sound-unrefused}
use Rattle.containment.proofs.Demand3.{demand3}
use Rattle.containment.proofs.Alone.{left-out-admitted, left-out-no-say}
use Rattle.containment.proofs.Sound.{rule_of}
use Rattle.containment.proofs.Shortened.{answer-few}
use Rattle.outcomes.proofs.Grants.{value-granted}

module _ {book : List ℕ} {answer witness : ℕ} (g : Given book answer witness) where
  the-demand : Demand3 g.value
  the-demand = demand3 g.value (value-granted g.sound.value)

  -- "the rewriting over the summaries and the question over the facts yield the same rows"
  pub given-same : (facts : List (Subgoal ℕ)) → AllFit g.value.arities facts → (held : Facts ℕ) → HoldJust (admitted_of g.value) (Listed facts) held → (row : List ℕ)
      → Yields itself (rewriting g.value.question g.result.rows) held row ↔ Yields itself g.value.question (Listed facts) row
  given-same = the-demand.same g.result.rows g.right.answers

  -- "Every safe conjunctive question over admitted summaries with fewer subgoals differs on some finite facts"
  pub given-fewer : (p : Rule ℕ) → OverAdmitted (admitted_of g.value) p → length p.body < length g.result.rows → DiffersSomewhere g.value p
  given-fewer = the-demand.fewer g.result.rows g.right.answers

  -- "It has at most as many subgoals as the question."
  pub given-few : length g.result.rows ≤ length g.value.question.body
  given-few = answer-few (admitted_of g.value) g.value.question g.result.rows g.right.answers

-- "where the refusal is 10, every one of any length does"
pub refused_all : (b : Book) {book : List ℕ} → SoundBook book b → Fault10 (admitted_of b) b.question → (p : Rule ℕ) → OverAdmitted (admitted_of b) p → DiffersSomewhere b p
refused_all b s never = (demand3 b (value-granted s.value)).refused never

-- "A summary left out has no say": two books of bytes whose values differ in summaries left out alone are given the same.
pub left-out-same : {book other : List ℕ} {answer witness : ℕ} (g : Given book answer witness) (h : Given other answer witness)
    → g.value.question ≡ h.value.question → g.value.need ≡ h.value.need → SameButLeftOut g.value.need g.value.summaries h.value.summaries
    → g.result ≡ h.result
left-out-same g h q n s = right_unique (admitted_of h.value) h.value.question g.result h.result ((left-out-no-say g.value h.value q n s g.result).0 g.right) h.right

-- The same of the refusals 9 and 10: admitted summaries and question are the same.
pub left-out-alike : (b c : Book) → b.need ≡ c.need → SameButLeftOut b.need b.summaries c.summaries → admitted_of b ≡ admitted_of c
left-out-alike b c need h = left-out-admitted b.need b.summaries c.summaries h ∙ ap (λ n. map (rule_of n) c.summaries) need

module _ {book other : List ℕ} {b c : Book} (sound : SoundBook book b) (also : SoundBook other c) (answer witness : ℕ)
    (question : b.question ≡ c.question) (need : b.need ≡ c.need) (h : SameButLeftOut b.need b.summaries c.summaries) where
  pub moved : (P : Summaries → Rule ℕ → Type 0) → P (admitted_of b) b.question → P (admitted_of c) c.question
  moved P p = subst (λ q. P (admitted_of c) q) question (subst (λ s. P s b.question) (left-out-alike b c need h) p)

  pub moved_back : (P : Summaries → Rule ℕ → Type 0) → P (admitted_of c) c.question → P (admitted_of b) b.question
  moved_back P p = subst (λ s. P s b.question) (sym (left-out-alike b c need h)) (subst (λ q. P (admitted_of c) q) (sym question) p)

  pub left-out-nine : RewriterRefusal book answer witness (of_book 9) → RewriterRefusal other answer witness (of_book 9)
  left-out-nine (read room r) = absurd (sound-unrefused sound r)
  left-out-nine (nine room v s f) = nine room c also (moved Fault9 (subst (λ v. Fault9 (admitted_of v) v.question) (book-unique s sound) f))

  pub left-out-ten : RewriterRefusal book answer witness (of_book 10) → RewriterRefusal other answer witness (of_book 10)
  left-out-ten (read room r) = absurd (sound-unrefused sound r)
  left-out-ten (ten room v s few never) =
      ten room c also (λ f. few (subst (λ v. Fault9 (admitted_of v) v.question) (sym (book-unique s sound)) (moved_back Fault9 f))) (moved Fault10 (subst (λ v. Fault10 (admitted_of v) v.question) (book-unique s sound) never))
