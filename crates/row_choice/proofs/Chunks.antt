-- Subgoals taken one by one as chunks of nine codes.
use mathlib.Core.Path.{◌≡◌, ap₂, ◌∙◌}
use mathlib.Core.Bool.{true}
use mathlib.Core.List.{List, []}
use Prim.Native.Nat.{ℕ, ◌+◌, ◌*◌, ◌/◌, ◌<◌, ◌≤◌}
use native.Mathlib.Omega.{arith}
use lib.ListN.{length, get_or}
use denote.Ref.{Bor}
use Rattle.std.specs.Prelude.{Option, Some, None, IfSome, option_map}
use Rattle.std.specs.List.{IsSubsliceAt}
use Rattle.std.specs.Iterator.Runs.{Run, IsChunksExactRun}

-- Where no chunk begins with the relation, no subgoal is of it.
module _ {S : Type 0} {steps : S → Option (Bor (List ℕ)) → S → Type 0} (p : Run steps) (target rest : List ℕ) {size relation : ℕ} where
  pub no-chunk : size ≡ 9 → rest ≡ target → IsChunksExactRun p size rest → p.whole ≡ true → ((k : ℕ) → IfSome (p.at k) (λ x. get_or x.now 0 0 ≡ relation → ⊥))
      → (k : ℕ) → k < length target / 9 → get_or target (9 * k) 0 ≡ relation → ⊥
  no-chunk e f chunks whole none k h z = go (p.at k) (chunks.2 k) (none k) (p.reads k (record { ref_ptr = (0, 0); now = [] }) long)
    where
      long : k < p.len
      long = let m : p.len ≡ length target / 9 = chunks.1 whole ∙ ap₂ (λ l n. length l / n) f e in omega arith

      go : {y : Bor (List ℕ)} (o : Option (Bor (List ℕ))) → IfSome o (λ x. (length x.now ≡ size) × (k * size + size ≤ length rest) × IsSubsliceAt size rest (k * size) x.now)
          → IfSome o (λ x. get_or x.now 0 0 ≡ relation → ⊥) → option_map (λ y. y) o ≡ Some y → ⊥
      go None c n q = cc
      go (Some x) c n q =
          let place : k * size + 0 ≡ 9 * k = rw e (omega arith) in
          n (c.2.2 0 0 (omega arith) ∙ ap₂ (λ l i. get_or l i 0) f place ∙ z)
