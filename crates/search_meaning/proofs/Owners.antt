-- Of each subgoal of the uses its row's number: as many as subgoals, below the number of rows, and what the place says.
use mathlib.Core.Path.{◌≡◌, refl, sym, ap, ◌∙◌}
use mathlib.Core.List.{List, [], ◌∷◌}
use Prim.Native.Nat.{ℕ, suc, ◌+◌, ◌-◌, ◌<◌, ◌≤◌}
use native.Mathlib.Omega.{arith}
use native.Mathlib.Decide.{dec_lt}
use lib.ListN.{length, get_or, replicate, length-append, length-replicate, get_or-replicate, get_or-append, get_or-eq_default}
use lib.Seq.{get_or-append-add}
use Rattle.spec.specs.Words.{Term, Subgoal}
use Rattle.spec.specs.Summaries.{Summaries, uses, joined}
use Rattle.choice_theory.specs.Placed.{owners}
use Rattle.search_meaning.specs.Uses.{use_at}
use Rattle.search_meaning.proofs.Pairs.{use-here, use-later}

module _ {A : Type 0} where
  pub owners-long : (u : ℕ) (ls : List (List A)) → length (owners u ls) ≡ length (joined ls)
  owners-long u [] = refl
  owners-long u (m ∷ ls) = length-append (replicate (length m) u) (owners (suc u) ls) ∙ omega (arith, length-replicate (length m) u, owners-long (suc u) ls, length-append m (joined ls))

  -- the number is that of the list which the place lies in
  pub owners-at : (u : ℕ) (ls : List (List A)) (k : ℕ) → k < length (joined ls) → get_or (owners u ls) k 0 ≡ use_at ls k + u
  owners-at u [] k h = absurd (omega arith)
  owners-at u (m ∷ ls) k h = go (dec_lt k (length m)) (owners-at (suc u) ls (k - length m))
    where
      go : Dec (k < length m) → (k - length m < length (joined ls) → get_or (owners (suc u) ls) (k - length m) 0 ≡ use_at ls (k - length m) + suc u) → get_or (owners u (m ∷ ls)) k 0 ≡ use_at (m ∷ ls) k + u
      go (yes l) rest =
          let e = get_or-append (replicate (length m) u) (owners (suc u) ls) 0 k (omega (arith, length-replicate (length m) u)) ∙ get_or-replicate (length m) k u 0 l in
          omega (arith, e, (use-here m ls k l).0)
      go (no l) rest =
          let n : k ≡ length m + (k - length m) = omega arith in
          let e : get_or (owners u (m ∷ ls)) k 0 ≡ get_or (owners (suc u) ls) (k - length m) 0 =
          ap (λ i. get_or (owners u (m ∷ ls)) i 0) (n ∙ ap (λ i. i + (k - length m)) (sym (length-replicate (length m) u))) ∙ get_or-append-add (replicate (length m) u) (owners (suc u) ls) (k - length m) 0 in
          let v : use_at (m ∷ ls) k ≡ suc (use_at ls (k - length m)) = ap (use_at (m ∷ ls)) n ∙ (use-later m ls (k - length m)).0 in
          omega (arith, e, v, rest (omega (arith, length-append m (joined ls))))

  use-below : (ls : List (List A)) (k : ℕ) → k < length (joined ls) → use_at ls k < length ls
  use-below [] k h = absurd (omega arith)
  use-below (m ∷ ls) k h = go (dec_lt k (length m)) (use-below ls (k - length m))
    where
      go : Dec (k < length m) → (k - length m < length (joined ls) → use_at ls (k - length m) < length ls) → use_at (m ∷ ls) k < suc (length ls)
      go (yes l) rest = omega (arith, (use-here m ls k l).0)
      go (no l) rest =
          let n : k ≡ length m + (k - length m) = omega arith in
          let v : use_at (m ∷ ls) k ≡ suc (use_at ls (k - length m)) = ap (use_at (m ∷ ls)) n ∙ (use-later m ls (k - length m)).0 in
          omega (arith, v, rest (omega (arith, length-append m (joined ls))))

pub uses-long : (s : Summaries) (u : ℕ) (l : List (Subgoal (Term ℕ))) → length (uses s u l) ≡ length l
uses-long s u [] = refl
uses-long s u (g ∷ l) = ap suc (uses-long s (suc u) l)

-- of at most 64 rows, a number below 64
pub owners-below : (s : Summaries) (l : List (Subgoal (Term ℕ))) → length l ≤ 64 → (k : ℕ) → get_or (owners 0 (uses s 0 l)) k 0 < 64
owners-below s l few k = elim (dec_lt k (length (joined (uses s 0 l)))) [
  | yes h ↦ omega (arith, owners-at 0 (uses s 0 l) k h, use-below (uses s 0 l) k h, uses-long s 0 l)
  | no h ↦ omega (arith, get_or-eq_default (owners 0 (uses s 0 l)) 0 {n = k} (omega (arith, owners-long 0 (uses s 0 l))))
]
