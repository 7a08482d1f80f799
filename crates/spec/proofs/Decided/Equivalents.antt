-- Whether a rewriting is equivalent, decided.
use mathlib.Core.Bool.{Bool, ◌&&◌}
use Prim.Native.Nat.{ℕ}
use lib.Dec.{T}
use Rattle.spec.specs.Words.{Rule}
use Rattle.spec.specs.Summaries.{Summaries, expansion, Equivalent}
use Rattle.spec.proofs.Lists.Tests.{and_parts, and_both, decided}
use Rattle.spec.proofs.Decided.Equal.{Eq, eq_number, eq_own}
use Rattle.spec.proofs.Decided.Decide.{maps, maps-sound, maps-complete}

module _ {X : Type 0} (e_x : Eq X) (s : Summaries) (q : Rule ℕ) (r : Rule X) where
  abbrev pub equivalent : Bool
  equivalent = maps eq_number (eq_own e_x) q (expansion s r) && maps (eq_own e_x) eq_number (expansion s r) q

  pub equivalent-sound : T equivalent → Equivalent s q r
  equivalent-sound h =
      let p = and_parts (maps eq_number (eq_own e_x) q (expansion s r)) (maps (eq_own e_x) eq_number (expansion s r) q) h in
      record { there = maps-sound eq_number (eq_own e_x) q (expansion s r) p.0; back = maps-sound (eq_own e_x) eq_number (expansion s r) q p.1 }

  pub equivalent-complete : Equivalent s q r → T equivalent
  equivalent-complete e = and_both (maps eq_number (eq_own e_x) q (expansion s r)) (maps (eq_own e_x) eq_number (expansion s r) q)
      (maps-complete eq_number (eq_own e_x) q (expansion s r) e.there) (maps-complete (eq_own e_x) eq_number (expansion s r) q e.back)

  pub dec_equivalent : Dec (Equivalent s q r)
  dec_equivalent = decided equivalent equivalent-sound equivalent-complete
