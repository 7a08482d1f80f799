-- Bindings where a new use starts: its own slots are cleared.
use mathlib.Core.Path.{◌≡◌}
use mathlib.Core.List.{List}
use Prim.Native.Nat.{ℕ, ◌+◌, ◌<◌, ◌≤◌}
use native.Mathlib.Omega.{arith}
use native.Mathlib.Decide.{dec_lt}
use lib.ListN.{length, get_or, replicate, get_or-eq_default}
use borrow.Author.Rules.{rules}
use borrow.Rule.Slice.PartMut.{put_mid, mid_of}
use Rattle.std.proofs.lemmas.List.{places}
use Rattle.task.specs.Terms.{Opened}

-- zeros in the place of all elements from n on
module _ (n m : ℕ) (g : List ℕ) (l : length g ≡ n + m) where
  part-long : length (mid_of n m g) ≡ m
  part-long = search (rules, places)

  zeros-long : length (put_mid n m g (replicate m 0)) ≡ n + m
  zeros-long = search (rules, places)

  zeros-low : (x : ℕ) → x < n → get_or (put_mid n m g (replicate m 0)) x 0 ≡ get_or g x 0
  zeros-low x h = grind (arith, places)

  zeros-high : (x : ℕ) → n ≤ x → x < n + m → get_or (put_mid n m g (replicate m 0)) x 0 ≡ 0
  zeros-high x h k = grind (arith, places)

pub clear-own : (last : ℕ) (g own : List ℕ) → length g ≡ 64 → (last ≡ 0 → ⊥) → own ≡ replicate (length (mid_of 32 32 g)) 0 → Opened last g (put_mid 32 32 g own)
clear-own last g own l n e =
    rw (e, part-long 32 32 g l) record {
      long = zeros-long 32 32 g l;
      same = λ e. absurd (n e);
      low = zeros-low 32 32 g l;
      high = λ f x h. elim (dec_lt x 64) [
        | yes i ↦ zeros-high 32 32 g l x h i
        | no i ↦ get_or-eq_default (put_mid 32 32 g (replicate 32 0)) 0 (omega (arith, zeros-long 32 32 g l))
      ];
    }
