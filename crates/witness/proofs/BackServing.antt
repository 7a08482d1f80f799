-- Rows that serve the question, as sources of the way back.
use mathlib.Core.List.{List}
use Prim.Native.Nat.{ℕ, ◌*◌}
use lib.ListN.{take}
use Rattle.codes.specs.Code.{own_slot}
use Rattle.book_codes.specs.AllUses.{GoalsCounted, AllCodes, AllWidths, AllEnds}
use Rattle.book_codes.proofs.Sourced.{from-of, from}
use Rattle.witness.specs.ThereTold.{WitnessNeeds}
use Rattle.witness.specs.BackTold.{BackSays}
use Rattle.witness.specs.BackSteps.{BackNeeds, BackFromSays}

module _ {book rows : List ℕ} {k n : ℕ} (counted : GoalsCounted book rows k n)
    {w₀ w d₀ d e₀ e : List ℕ} (codes : AllCodes book rows k own_slot w₀ w) (wide : AllWidths book rows k d₀ d) (ends : AllEnds book rows k e₀ e) where
  pub from-serving : WitnessNeeds book rows k → BackNeeds book (take (9 * n) w) (take n d) (take n e)
  unfolding from
  from-serving t = record { from = from counted codes wide ends t.some; serves = t.serves }

  pub back-told : {at : ℕ} {out out' : List ℕ} {m : ℕ} → BackFromSays book (take (9 * n) w) (take n d) (take n e) at out out' m → BackSays book rows k at out out' m
  back-told f = record { is = λ b l t serves. f.is b l (from-of counted codes wide ends b l t) serves }
