-- How the walk over the arities finds out "1 to 32 bytes, each an arity 1 to 8".
use mathlib.Core.Path.{◌≡◌}
use mathlib.Core.Bool.{Bool, true, false}
use mathlib.Core.Logic.{◌⊎◌, ⊎_elim}
use mathlib.Core.List.{List}
use Prim.Native.Nat.{ℕ, ◌<◌, ◌≤◌}
use native.Mathlib.Omega.{arith}
use lib.ListN.{length, get_or}
use Rattle.std.specs.Bool.{MatchBool}
use Rattle.std.specs.List.{AllWithin, HoldsAt}
use Rattle.spec.specs.BookLayout.{Arities}
use Rattle.spec.proofs.Lists.At.{get_or-in, in-get_or}

abbrev pub InRange : ℕ → Type 0
InRange a = (1 ≤ a) × (a ≤ 8)

abbrev pub OutOfRange : ℕ → Type 0
OutOfRange a = (a < 1) ⊎ (8 < a)

-- What `any` answers of a byte out of range.
abbrev pub Walked : List ℕ → Bool → Type 0
Walked part r = MatchBool r ((k : ℕ) × (k < length part) × HoldsAt OutOfRange part k) (AllWithin InRange part 0 (length part))

module _ (part : List ℕ) where
  pub out-of-range : (r : Bool) → r ≡ true → Walked part r → Arities part → ⊥
  out-of-range true e w a = let h = a.range (get_or part w.0 0) (get_or-in 0 part w.0 w.1) in ⊎_elim (λ l. omega arith) (λ l. omega arith) (w.2 0)
  out-of-range false e w a = cc

  pub in-range : (r : Bool) → r ≡ false → Walked part r → 1 ≤ length part → length part ≤ 32 → Arities part
  in-range true e w l h = cc
  in-range false e w l h = record { some = l; few = h; range = λ a m. let p = in-get_or 0 _ m in let r = w p.0 0 (omega arith) p.1 in (omega arith, omega arith) }
