-- A rewriting read as a rule: in place of relations stand the summaries, each as wide as its head.
use mathlib.Core.Path.{◌≡◌, refl, sym, ap, ◌∙◌}
use mathlib.Core.Bool.{Bool, true, false}
use mathlib.Core.Option.{some, none-ne-some, some-injective}
use mathlib.Core.List.{List, [], ◌∷◌, map}
use Prim.Native.Nat.{ℕ, zero, suc, ◌≤◌}
use native.Mathlib.Omega.{arith}
use lib.ListN.{length, get_or, length-map}
use Rattle.spec.specs.Words.{◌∈◌, Term, Subgoal, Rule, Fits}
use Rattle.spec.specs.Summaries.{summary}
use Rattle.spec.specs.Refresh.{admitted}
use Rattle.spec.specs.Book.{Summary, Book, if_true}
use Rattle.spec.specs.RuleLayout.{Layout, rule_bytes}
use Rattle.spec.specs.BookLayout.{SoundBook, question_most}
use Rattle.spec.specs.Truth.{RewritingRule}

-- "Summaries are numbered from 1": number 0 is none, and none is over it.
abbrev pub head_lengths : Book → List ℕ
head_lengths b = 0 ∷ map (λ (m : Summary). length m.rule.head) b.summaries

-- an admitted summary's number is one of the book's, and it is as wide as the table says
pub width_is : (need : ℕ) (ms : List Summary) (n : ℕ) (r : Rule ℕ) → summary (map (λ m. if_true (admitted need m.stamp m.rule) m.rule) ms) n ≡ some r
    → (1 ≤ n) × (n ≤ length ms) × (get_or (0 ∷ map (λ (m : Summary). length m.rule.head) ms) n 0 ≡ length r.head)
width_is need [] n r e = absurd (none-ne-some r e)
width_is need (m ∷ ms) zero r e = absurd (none-ne-some r e)
width_is need (m ∷ ms) (suc zero) r e = (omega arith, omega arith, go (admitted need m.stamp m.rule) e)
  where
    go : (b : Bool) → if_true b m.rule ≡ some r → length m.rule.head ≡ length r.head
    go true p = ap (λ (x : Rule ℕ). length x.head) (some-injective m.rule r p)
    go false p = absurd (none-ne-some r p)
width_is need (m ∷ ms) (suc (suc n)) r e = let w = width_is need ms (suc n) r e in (omega arith, omega (arith, w.1), w.2)

-- A rewriting's rule is laid out over the lengths of the summaries' heads.
module _ {book : List ℕ} (b : Book) (sound : SoundBook book b) (r : Rule ℕ) (is : RewritingRule b r) where
  fits : (g : Subgoal (Term ℕ)) → g ∈ r.body → Fits (head_lengths b) g
  fits g m =
      let o = is.over g m in
      let w = width_is b.need b.summaries g.relation o.rule o.admitted in
      record { known = omega (arith, w.1, length-map b.summaries (λ (m : Summary). length m.rule.head)); long = o.long ∙ sym w.2 }

  pub laid_out : Layout (head_lengths b) question_most (rule_bytes r) r
  laid_out = record {
    within = record {
      short = rw is.head sound.value.question.within.short;
      some = is.some;
      few = is.few;
      head = rw is.head sound.value.question.within.head;
      fit = fits;
      body = is.within;
    };
    written = refl;
  }
