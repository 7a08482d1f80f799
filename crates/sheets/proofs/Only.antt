-- A sheet that comes true leaves no other outcome: any that the promise of rewriting allows is the sheet's own.
use mathlib.Core.Path.{◌≡◌, ap, ◌∙◌}
use mathlib.Core.List.{List}
use Prim.Native.Nat.{ℕ}
use Rattle.spec.specs.declared.Reason.{Reason}
use Rattle.spec.specs.Refusals.{of_entry}
use Rattle.spec.specs.Table.{Fault1, RewriterRefusal}
use Rattle.spec.specs.Given.{Given, answer_bytes, witness_bytes}
use Rattle.outcomes.proofs.Once.{given-value, given-result, given-unrefused, refused-same}
use Rattle.sheets.specs.Sheet.{accepts, refuses, ComesTrue}

module _ (book answer witness : List ℕ) (comes : ComesTrue (accepts book answer witness)) (n m : ℕ) (room : Fault1 n m → ⊥) where
  pub accepted-only : (g : Given book n m) → (answer_bytes g.value.question g.result ≡ answer) × (witness_bytes g.result ≡ witness)
  accepted-only g =
      let own = comes n m room in
      let value = given-value book n m g own.given in
      let result = given-result book n m g own.given in
      (ap (λ v. answer_bytes v.question g.result) value ∙ ap (answer_bytes own.given.value.question) result ∙ own.answer_is, ap witness_bytes result ∙ own.witness_is)

  pub accepted-unrefused : {r : Reason} → RewriterRefusal book n m r → ⊥
  accepted-unrefused = given-unrefused book n m (comes n m room).given

module _ (book : List ℕ) (number place : ℕ) (comes : ComesTrue (refuses book number place)) (n m : ℕ) (room : Fault1 n m → ⊥) where
  pub refused-only : {r : Reason} → RewriterRefusal book n m r → r ≡ of_entry number place
  refused-only r = refused-same book n m r (comes n m room)

  pub refused-ungiven : Given book n m → ⊥
  refused-ungiven g = given-unrefused book n m g (comes n m room)
