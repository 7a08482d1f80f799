-- The place that a pair of bytes names, case by case.
use mathlib.Core.Path.{◌≡◌, ap, ◌∙◌}
use mathlib.Core.List.{List}
use Prim.Native.Nat.{ℕ, suc, ◌+◌, ◌-◌, ◌<◌, ◌≤◌}
use native.Mathlib.Omega.{arith}
use lib.ListN.{get_or}
use Rattle.std.specs.Prelude.{Some, None}
use Rattle.witness_check.specs.WayThere.Places.{PlaceOf}

module _ (starts : List ℕ) (k row inner : ℕ) where
  pub no_row : row < 1 → PlaceOf starts k row inner None
  no_row h p n = let e = n.2 in omega arith

  pub no_place : k < row → PlaceOf starts k row inner None
  no_place h p n = let e = n.2 in let l = n.4.less in omega arith

  pub no_inner : inner < 1 → PlaceOf starts k row inner None
  no_inner h p n = let e = n.3 in omega arith

  module _ (here next : ℕ) (f : here ≡ get_or starts (row - 1) 0) (g : next ≡ get_or starts row 0) where
    pub in_use : 1 ≤ row → row ≤ k → 1 ≤ inner → here + (inner - 1) < next → PlaceOf starts k row inner (Some (here + (inner - 1)))
    in_use a b c d =
        let e : row ≡ suc (row - 1) = omega arith in
        (row - 1, inner - 1, e, (let z : inner ≡ suc (inner - 1) = omega arith in z), record { less = omega arith; is = ap (λ n. n + (inner - 1)) f; within = let z = g ∙ ap (λ n. get_or starts n 0) e in omega arith })

    pub past-use : next ≤ here + (inner - 1) → PlaceOf starts k row inner None
    past-use d p n =
        let x = n.2 in let y = n.3 in
        let z : row - 1 ≡ n.0 = omega arith in let v = f ∙ ap (λ n. get_or starts n 0) z in let e = g ∙ ap (λ n. get_or starts n 0) x in let j = n.4.is in let l = n.4.within in omega arith
