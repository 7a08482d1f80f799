-- Whether two leads are the same, as a test.
use mathlib.Core.Path.{◌≡◌, refl, ap}
use mathlib.Core.Bool.{Bool, true, false}
use lib.IntN.{ℤ, pos, negsuc}
use lib.Dec.{T, eqb, eqb→eq}
use Rattle.spec.specs.Refresh.{Lead, ahead, unfilled}

abbrev same_whole : ℤ → ℤ → Bool
same_whole (pos a) (pos b) = eqb a b
same_whole (pos a) (negsuc b) = false
same_whole (negsuc a) (pos b) = false
same_whole (negsuc a) (negsuc b) = eqb a b

whole-sound : (a b : ℤ) → T (same_whole a b) → a ≡ b
whole-sound (pos a) (pos b) h = ap pos (eqb→eq a b h)
whole-sound (pos a) (negsuc b) h = absurd h
whole-sound (negsuc a) (pos b) h = absurd h
whole-sound (negsuc a) (negsuc b) h = ap negsuc (eqb→eq a b h)

abbrev pub same_lead : Lead → Lead → Bool
same_lead (ahead a) (ahead b) = same_whole a b
same_lead (ahead a) unfilled = false
same_lead unfilled (ahead b) = false
same_lead unfilled unfilled = true

pub lead-sound : (l k : Lead) → T (same_lead l k) → l ≡ k
lead-sound (ahead a) (ahead b) h = ap ahead (whole-sound a b h)
lead-sound (ahead a) unfilled h = absurd h
lead-sound unfilled (ahead b) h = absurd h
lead-sound unfilled unfilled h = refl
