-- One place more, stored behind those before.
use mathlib.Core.Path.{◌≡◌, sym, ◌∙◌, subst}
use mathlib.Core.List.{List}
use Prim.Native.Nat.{ℕ, ◌+◌, ◌<◌, ◌≤◌}
use native.Mathlib.Omega.{arith}
use native.Mathlib.Decide.{ℕ_discrete}
use lib.ListN.{length, get_or, set, length-set}
use lib.Seq.{get_or-set_same, get_or-set_other}
use Rattle.witness_check.specs.WayThere.Places.{PairNames, PairPlaces}

module _ (P : ℕ → ℕ → Type 0) (n : ℕ) (ks : List ℕ) (p : ℕ) where
  pub one_more : n < length ks → ((i : ℕ) → i < n → P i (get_or ks i 0)) → P n p → (i : ℕ) → i < n + 1 → P i (get_or (set ks n p) i 0)
  one_more room h here i o = elim (ℕ_discrete i n) [
    | yes e ↦ subst (λ j. P j (get_or (set ks n p) j 0)) (sym e) (subst (P n) (sym (get_or-set_same ks n p 0 room)) here)
    | no e ↦ subst (P i) (sym (get_or-set_other ks n i p 0 e)) (h i (omega arith))
  ]

pub pairs_start : (bytes starts : List ℕ) (k : ℕ) (ks : List ℕ) → length ks ≡ 96 → PairPlaces bytes starts k 0 ks
pairs_start bytes starts k ks e = record { long = e; at = λ i o. absurd (omega arith) }

pub pairs-more : (bytes starts : List ℕ) (k n : ℕ) (ks : List ℕ) (p : ℕ) → n < 96 → PairPlaces bytes starts k n ks → PairNames bytes starts k n p → PairPlaces bytes starts k (n + 1) (set ks n p)
pairs-more bytes starts k n ks p room h here = record { long = length-set ks n p ∙ h.long; at = one_more (PairNames bytes starts k) n ks p (omega (arith, h.long)) h.at here }

-- all are stored
pub pairs_end : (bytes starts : List ℕ) (k n i : ℕ) (ks : List ℕ) → n ≤ i → PairPlaces bytes starts k i ks → PairPlaces bytes starts k n ks
pairs_end bytes starts k n i ks e h = record { long = h.long; at = λ j o. h.at j (omega arith) }
