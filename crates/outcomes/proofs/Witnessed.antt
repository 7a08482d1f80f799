-- "For an equivalent rewriting of 1 to 12 subgoals over admitted summaries, within the layout, some witness passes; for others none does."
use mathlib.Core.Path.{refl}
use mathlib.Core.List.{List, ◌++◌}
use Prim.Native.Nat.{ℕ}
use Rattle.spec.specs.Words.{Rule}
use Rattle.spec.specs.Summaries.{Equivalent}
use Rattle.spec.specs.Book.{Book, admitted_of}
use Rattle.spec.specs.RuleLayout.{rule_bytes}
use Rattle.spec.specs.BookLayout.{SoundBook}
use Rattle.spec.specs.Truth.{RewritingRule, Truth}
use Rattle.spec.proofs.Decided.WitnessExists.{maps-there, maps-back}

module _ {book : List ℕ} (b : Book) (sound : SoundBook book b) (r : Rule ℕ) (is : RewritingRule b r) where
  pub witness-for : Equivalent (admitted_of b) b.question r → (witness : List ℕ) × Truth book (rule_bytes r) witness
  witness-for e =
      let t = maps-there (admitted_of b) b.question r e.there in
      let u = maps-back (admitted_of b) b.question r e.back in
      (t.0 ++ u.0, record { value = b; sound = sound; rule = r; written = refl; is = is; there = t.0; back = u.0; whole = refl; goes = t.1.holds; returns = u.1.holds })
