-- "The rewriter's own answers pass": what `rewrite` left in the two areas, given to `check`, gets a yes.
use mathlib.Core.Path.{◌≡◌, sym, ap, ◌∙◌, subst}
use mathlib.Core.Bool.{Bool, true}
use mathlib.Core.List.{List}
use Prim.Native.Nat.{ℕ}
use lib.ListN.{take}
use lib.Seq.{take_at}
use Rattle.spec.specs.Given.{answer_bytes, witness_bytes}
use Rattle.spec.specs.Truth.{Truth, Checks}
use Rattle.spec.specs.Rewriting.{Rewriting}
use Rattle.std.specs.Prelude.{Ok}
use Rattle.spec.specs.declared.Lengths.{Lengths}
use Rattle.outcomes.proofs.Own.{given-true}

pub own-passes : {book a a₁ w w₁ : List ℕ} {l : Lengths} → Rewriting book a a₁ w w₁ (Ok l) → {answer : Bool} → Checks book (take l.answer a₁) (take l.witness w₁) answer → answer ≡ true
own-passes {book} {a₁ = a₁} {w₁ = w₁} {l} x c =
    let g = x.given in
    let n = l.answer in let m = l.witness in
    let answers : take n a₁ ≡ answer_bytes g.value.question g.result = ap (take n) x.answer_is ∙ take_at (answer_bytes g.value.question g.result) _ n (sym x.answer_long) in
    let witnesses : take m w₁ ≡ witness_bytes g.result = ap (take m) x.witness_is ∙ take_at (witness_bytes g.result) _ m (sym x.witness_long) in
    c.exactly.1 (subst (λ r. Truth book r (take m w₁)) (sym answers) (subst (Truth book (answer_bytes g.value.question g.result)) (sym witnesses) (given-true g)))
