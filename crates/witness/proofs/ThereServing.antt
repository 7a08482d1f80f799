-- Rows that serve the question, as targets of the way there.
use mathlib.Core.List.{List}
use Prim.Native.Nat.{ℕ, ◌*◌}
use lib.ListN.{take}
use Rattle.codes.specs.Code.{own_code}
use Rattle.book_codes.specs.AllUses.{GoalsCounted, AllCodes, AllOwners, AllInsides}
use Rattle.book_codes.proofs.Expanded.{onto-of, onto}
use Rattle.witness.specs.ThereTold.{WitnessNeeds, ThereSays}
use Rattle.witness.specs.ThereSteps.{ThereNeeds, ThereOntoSays}

module _ {book rows : List ℕ} {k n : ℕ} (counted : GoalsCounted book rows k n)
    {o₀ o w₀ w i₀ i : List ℕ} (codes : AllCodes book rows k own_code w₀ w) (owns : AllOwners book rows k o₀ o) (inners : AllInsides book rows k i₀ i) where
  pub onto-serving : WitnessNeeds book rows k → ThereNeeds book (take (9 * n) w) (take n o) (take n i)
  unfolding onto
  onto-serving t = record { onto = onto counted codes owns inners t.some; serves = t.serves }

  pub there-told : {out out' : List ℕ} {m : ℕ} → ThereOntoSays book (take (9 * n) w) (take n o) (take n i) out out' m → ThereSays book rows k out out' m
  there-told e = record { is = λ b l t serves. e.is b l (onto-of counted codes owns inners b l t) serves }
