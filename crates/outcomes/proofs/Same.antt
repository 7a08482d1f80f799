-- What passes yields the same rows as the question; it need not be shortest nor made of summary rows.
use mathlib.Core.Logic.{◌↔◌}
use mathlib.Core.List.{List}
use Prim.Native.Nat.{ℕ}
use Rattle.spec.specs.Words.{Subgoal, Facts, Listed, AllFit, Yields, itself}
use Rattle.spec.specs.Summaries.{HoldJust, Equivalent}
use Rattle.spec.specs.Book.{admitted_of}
use Rattle.spec.specs.Truth.{Truth}
use Rattle.spec.proofs.Decided.WitnessExists.{there-maps, back-maps}
use Rattle.containment.proofs.OverSuits.{over-suit-all}
use Rattle.containment.proofs.Same.{equivalent-held}
use Rattle.containment.proofs.Sound.{sound-distinct}
use Rattle.outcomes.proofs.Grants.{value-granted}

module _ {book rewriting witness : List ℕ} (t : Truth book rewriting witness) where
  pub true-equivalent : Equivalent (admitted_of t.value) t.value.question t.rule
  true-equivalent = record {
    there = there-maps (admitted_of t.value) t.value.question t.rule t.there t.goes;
    back = back-maps (admitted_of t.value) t.value.question t.rule t.back t.returns;
  }

  pub true_same : (facts : List (Subgoal ℕ)) → AllFit t.value.arities facts → (held : Facts ℕ) → HoldJust (admitted_of t.value) (Listed facts) held → (row : List ℕ)
      → Yields itself t.rule held row ↔ Yields itself t.value.question (Listed facts) row
  true_same facts fit held just row =
      equivalent-held (admitted_of t.value) t.value.question t.rule (over-suit-all (admitted_of t.value) (sound-distinct t.value (value-granted t.sound.value)) t.rule t.is.over) true-equivalent (Listed facts) held just row
