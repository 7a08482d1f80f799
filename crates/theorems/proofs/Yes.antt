-- What a yes means, and for which rewritings there is one.
use mathlib.Core.Path.{◌≡◌, refl}
use mathlib.Core.Bool.{Bool, true, false}
use mathlib.Core.List.{List}
use Prim.Native.Nat.{ℕ}
use Rattle.spec.specs.Words.{Rule}
use Rattle.spec.specs.Summaries.{Equivalent}
use Rattle.spec.specs.Book.{Book, admitted_of}
use Rattle.spec.specs.RuleLayout.{rule_bytes}
use Rattle.spec.specs.BookLayout.{SoundBook}
use Rattle.spec.specs.Truth.{RewritingRule, Checks}
use Rattle.spec.specs.Demand.{YesSameRows}
use Rattle.outcomes.proofs.Same.{true_same}
use Rattle.outcomes.proofs.Witnessed.{witness-for}
use Rattle.outcomes.proofs.AsRule.{passes-only}

pub yes-same : {book rewriting witness : List ℕ} → Checks book rewriting witness true → YesSameRows book rewriting
yes-same c = let t = c.exactly.0 refl in record { value = t.value; sound = t.sound; rule = t.rule; written = t.written; same = true_same t }

-- "For an equivalent rewriting of 1 to 12 subgoals over admitted summaries, within the layout, some witness passes; for others none does."
module _ {book : List ℕ} (b : Book) (sound : SoundBook book b) (r : Rule ℕ) (is : RewritingRule b r) where
  pub some-passes : Equivalent (admitted_of b) b.question r → (witness : List ℕ) × ((answer : Bool) → Checks book (rule_bytes r) witness answer → answer ≡ true)
  some-passes e = let w = witness-for b sound r is e in (w.0, λ answer c. c.exactly.1 w.1)

  pub none_passes : (Equivalent (admitted_of b) b.question r → ⊥) → (witness : List ℕ) (answer : Bool) → Checks book (rule_bytes r) witness answer → answer ≡ false
  none_passes never witness false c = refl
  none_passes never witness true c = absurd (never (passes-only b sound r is witness (c.exactly.0 refl)))
