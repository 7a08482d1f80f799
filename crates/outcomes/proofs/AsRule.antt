-- The bytes of a rewriting say which rule it is.
use mathlib.Core.Path.{◌≡◌, refl, subst}
use mathlib.Core.List.{List}
use Prim.Native.Nat.{ℕ}
use Rattle.spec.specs.Words.{Rule}
use Rattle.spec.specs.Summaries.{Equivalent}
use Rattle.spec.specs.Book.{Book, admitted_of}
use Rattle.spec.specs.RuleLayout.{rule_bytes}
use Rattle.spec.specs.BookLayout.{SoundBook, question_most}
use Rattle.spec.specs.Truth.{RewritingRule, Truth}
use Rattle.spec.proofs.Bytes.RuleLaws.{layout-unique}
use Rattle.spec.proofs.Bytes.BookUnique.{book-unique}
use Rattle.spec.proofs.Bytes.HeadLengths.{head_lengths, laid_out}
use Rattle.outcomes.proofs.Same.{true-equivalent}

pub rule-once : {book : List ℕ} (b : Book) → SoundBook book b → (bytes : List ℕ) (r s : Rule ℕ) → RewritingRule b r → RewritingRule b s → rule_bytes r ≡ bytes → rule_bytes s ≡ bytes → r ≡ s
rule-once b sound bytes r s is other e f = layout-unique (head_lengths b) question_most bytes r s (rw e at (laid_out b sound r is)) (rw f at (laid_out b sound s other))

-- for a rule that is not equivalent no witness passes
pub passes-only : {book : List ℕ} (b : Book) (sound : SoundBook book b) (r : Rule ℕ) → RewritingRule b r → (witness : List ℕ) → Truth book (rule_bytes r) witness → Equivalent (admitted_of b) b.question r
passes-only {book} b sound r is witness t = subst (λ x. Equivalent (admitted_of b) b.question x) same (subst (λ (v : Book). Equivalent (admitted_of v) v.question t.rule) value (true-equivalent t))
  where
    value : t.value ≡ b
    value = book-unique t.sound sound

    other : RewritingRule b t.rule
    other = subst (λ v. RewritingRule v t.rule) value t.is

    same : t.rule ≡ r
    same = rule-once b sound (rule_bytes r) t.rule r other is t.written refl
