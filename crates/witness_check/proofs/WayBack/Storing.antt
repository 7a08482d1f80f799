-- One place more, stored behind those before.
use mathlib.Core.Path.{◌≡◌, ◌∙◌}
use mathlib.Core.List.{List}
use Prim.Native.Nat.{ℕ, suc, ◌+◌, ◌<◌, ◌≤◌}
use native.Mathlib.Omega.{arith}
use lib.ListN.{length, get_or, set, length-set}
use Rattle.witness_check.specs.WayBack.Places.{BytePlaces}
use Rattle.witness_check.proofs.WayThere.Storing.{one_more}

pub bytes-start : (bytes ks : List ℕ) → length ks ≡ 96 → BytePlaces bytes 0 ks
bytes-start bytes ks e = record { long = e; at = λ i o. absurd (omega arith) }

pub bytes-more : (bytes : List ℕ) (n : ℕ) (ks : List ℕ) (p : ℕ) → n < 96 → BytePlaces bytes n ks → get_or bytes n 0 ≡ suc p → BytePlaces bytes (n + 1) (set ks n p)
bytes-more bytes n ks p room h here = record { long = length-set ks n p ∙ h.long; at = one_more (λ i q. get_or bytes i 0 ≡ suc q) n ks p (omega (arith, h.long)) h.at here }

-- all are stored
pub bytes-end : (bytes : List ℕ) (n i : ℕ) (ks : List ℕ) → n ≤ i → BytePlaces bytes i ks → BytePlaces bytes n ks
bytes-end bytes n i ks e h = record { long = h.long; at = λ j o. h.at j (omega arith) }
