-- Any two results that meet the promise are the same: the outcome, and every byte of both areas.
use mathlib.Core.Path.{◌≡◌, sym, ap, ◌∙◌}
use mathlib.Core.List.{List}
use Prim.Native.Nat.{ℕ}
use lib.ListN.{length}
use Rattle.spec.specs.Rewriting.{Rewriting}
use Rattle.std.specs.Prelude.{Result, Ok, Err}
use Rattle.spec.specs.declared.Lengths.{Lengths}
use Rattle.spec.specs.declared.Refused.{Refused}
use Rattle.spec.proofs.Told.{told-once}
use Rattle.outcomes.proofs.Once.{given-unrefused, refused-same}
use Rattle.answer.proofs.Unique.{accepted-once}

module _ (book a w : List ℕ) where
  pub rewriting-once : (r r' : Result Lengths Refused) (a₁ a₂ w₁ w₂ : List ℕ) → Rewriting book a a₁ w w₁ r → Rewriting book a a₂ w w₂ r' → (r ≡ r') × (a₁ ≡ a₂) × (w₁ ≡ w₂)
  rewriting-once (Ok l) (Ok m) a₁ a₂ w₁ w₂ x y =
      let e = accepted-once book a w l.answer l.witness m.answer m.witness a₁ a₂ w₁ w₂ x y in
      let same : l ≡ m = λ i. record { answer = e.0 i; witness = e.1 i } in
      (ap Ok same, e.2, e.3)
  rewriting-once (Ok l) (Err r) a₁ a₂ w₁ w₂ x y = absurd (given-unrefused book (length a) (length w) x.given y.refused)
  rewriting-once (Err r) (Ok l) a₁ a₂ w₁ w₂ x y = absurd (given-unrefused book (length a) (length w) y.given x.refused)
  rewriting-once (Err r) (Err s) a₁ a₂ w₁ w₂ x y =
      let e = told-once r s (refused-same book (length a) (length w) x.refused y.refused) in
      (ap Err e, x.answer_stays ∙ sym y.answer_stays, x.witness_stays ∙ sym y.witness_stays)
