-- What stands where in the codes of a list of subgoals.
use mathlib.Core.Path.{◌≡◌, ◌∙◌}
use mathlib.Core.List.{List, [], ◌∷◌, map}
use Prim.Native.Nat.{ℕ, zero, suc, ◌+◌, ◌*◌, ◌<◌}
use native.Mathlib.Omega.{arith}
use lib.ListN.{length, get_or, length-map, get_or-append, get_or-map}
use lib.Seq.{get_or-append-add}
use Rattle.spec.specs.Words.{Subgoal}
use Rattle.spec.proofs.Lists.At.{map_get}
pub use Rattle.choice_theory.specs.Numbered.{nothing}
use Rattle.codes.specs.Code.{subgoal_codes, codes_of, widths_of}
use Rattle.codes.proofs.Padded.{padded-get, nine}

module _ {A : Type 0} (f : A → ℕ) where
  pub codes-get : (gs : List (Subgoal A)) (i r : ℕ) → i < length gs → r < 9 → get_or (codes_of f gs) (9 * i + r) 0 ≡ get_or (subgoal_codes f (get_or gs i nothing)) r 0
  codes-get [] i r h m = absurd (omega arith)
  codes-get (g ∷ gs) zero r h m = let e : 9 * 0 + r ≡ r = omega arith in rw e (get_or-append (subgoal_codes f g) (codes_of f gs) 0 r (omega (arith, nine f g)))
  codes-get (g ∷ gs) (suc i) r h m =
      let e : 9 * suc i + r ≡ length (subgoal_codes f g) + (9 * i + r) = omega (arith, nine f g) in
      rw e (get_or-append-add (subgoal_codes f g) (codes_of f gs) (9 * i + r) 0 ∙ codes-get gs i r (omega arith) m)

  pub relation-at : (gs : List (Subgoal A)) (i : ℕ) → i < length gs → get_or (codes_of f gs) (9 * i) 0 ≡ (get_or gs i nothing).relation
  relation-at gs i h = let e : 9 * i ≡ 9 * i + 0 = omega arith in rw e (codes-get gs i 0 h (omega arith))

  pub term-at : (gs : List (Subgoal A)) (i a : ℕ) (d : A) → i < length gs → a < 8 → a < length (get_or gs i nothing).terms → get_or (codes_of f gs) (9 * i + 1 + a) 0 ≡ f (get_or (get_or gs i nothing).terms a d)
  term-at gs i a d h m o =
      let e : 9 * i + 1 + a ≡ 9 * i + suc a = omega arith in
      let ts = (get_or gs i nothing).terms in
      rw e (codes-get gs i (suc a) h (omega arith) ∙ padded-get 8 (map f ts) a m (omega (arith, length-map ts f)) ∙ map_get f ts a d 0 o)

pub width-at : {A : Type 0} (gs : List (Subgoal A)) (i : ℕ) → get_or (widths_of gs) i 0 ≡ length (get_or gs i nothing).terms
width-at gs i = get_or-map (λ g. length g.terms) gs i nothing
