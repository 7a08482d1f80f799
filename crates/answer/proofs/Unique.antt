-- Any two results that meet the promise are the same: both lengths, and every byte of both areas.
use mathlib.Core.Path.{◌≡◌, sym, ap, ap₂, ◌∙◌}
use mathlib.Core.List.{List}
use Prim.Native.Nat.{ℕ}
use lib.ListN.{length}
use Rattle.spec.specs.Book.{Book}
use Rattle.spec.specs.Result.{Answered}
use Rattle.spec.specs.Given.{at_front, answer_bytes, witness_bytes, Given}
use Rattle.spec.specs.Rewriting.{Accepted}
use Rattle.outcomes.proofs.Once.{given-value, given-result}

module _ (book a w : List ℕ) where
  abbrev answer_of : Given book (length a) (length w) → List ℕ
  answer_of g = answer_bytes g.value.question g.result

  abbrev witness_of : Given book (length a) (length w) → List ℕ
  witness_of g = witness_bytes g.result

  same_answer : (g h : Given book (length a) (length w)) → answer_of g ≡ answer_of h
  same_answer g h = ap₂ (λ (v : Book) (r : Answered). answer_bytes v.question r) (given-value book (length a) (length w) g h) (given-result book (length a) (length w) g h)

  same-witness : (g h : Given book (length a) (length w)) → witness_of g ≡ witness_of h
  same-witness g h = ap (λ (r : Answered). witness_bytes r) (given-result book (length a) (length w) g h)

  pub accepted-once : (n m n' m' : ℕ) (a₁ a₂ w₁ w₂ : List ℕ) → Accepted book a a₁ w w₁ n m → Accepted book a a₂ w w₂ n' m' → (n ≡ n') × (m ≡ m') × (a₁ ≡ a₂) × (w₁ ≡ w₂)
  accepted-once n m n' m' a₁ a₂ w₁ w₂ x y =
      let answers = same_answer x.given y.given in
      let witnesses = same-witness x.given y.given in (
        x.answer_long ∙ ap length answers ∙ sym y.answer_long,
        x.witness_long ∙ ap length witnesses ∙ sym y.witness_long,
        x.answer_is ∙ ap (λ l. at_front l a) answers ∙ sym y.answer_is,
        x.witness_is ∙ ap (λ l. at_front l w) witnesses ∙ sym y.witness_is,
      )
