-- The elements of lists one after the other, each with its list's number.
use mathlib.Core.Path.{◌≡◌, refl, sym, ap, ◌∙◌, subst}
use mathlib.Core.Option.{some, none-ne-some, some-injective}
use mathlib.Core.List.Memᴰ
use mathlib.Core.List.{List, [], ◌∷◌, ◌++◌}
use Prim.Native.Nat.{ℕ, zero, suc, ◌+◌, ◌-◌, ◌<◌}
use native.Mathlib.Omega.{arith}
use native.Mathlib.Decide.{dec_lt}
use native.Mathlib.Nat.{zero-add}
use lib.ListN.{length, get_or, replicate, length-append, length-replicate, get_or-replicate, get_or-append}
use lib.Seq.{get_or-append-add}
use Rattle.spec.specs.Words.{◌∈◌, Term, Subgoal}
use Rattle.spec.specs.Summaries.{place, Summaries, Own, in_place, uses, joined}
use Rattle.spec.proofs.Lists.At.{get_or-in, in-get_or}
use Rattle.spec.proofs.Decided.Rows.{RowList}
use Rattle.choice_theory.specs.Numbered.{row_at}
use Rattle.choice_theory.specs.Placed.{owners}

module _ {A : Type 0} (m : List A) (ls : List (List A)) (v : ℕ) where
  pub owners-first : (k : ℕ) → k < length m → get_or (owners v (m ∷ ls)) k 0 ≡ v
  owners-first k h = get_or-append (replicate (length m) v) (owners (suc v) ls) 0 k (omega (arith, length-replicate (length m) v)) ∙ get_or-replicate (length m) k v 0 h

  pub owners-rest : (k : ℕ) → get_or (owners v (m ∷ ls)) (length m + k) 0 ≡ get_or (owners (suc v) ls) k 0
  owners-rest k = ap (λ n. get_or (owners v (m ∷ ls)) (n + k) 0) (sym (length-replicate (length m) v)) ∙ get_or-append-add (replicate (length m) v) (owners (suc v) ls) k 0

module _ {A : Type 0} (d : A) where
  -- An element of the list numbered u has a place among all.
  pub joined_at : (ls : List (List A)) (v u : ℕ) (l : List A) (a : A) → place ls (suc u) ≡ some l → a ∈ l → (k : ℕ) × (k < length (joined ls)) × (get_or (joined ls) k d ≡ a) × (get_or (owners v ls) k 0 ≡ u + v)
  joined_at [] v u l a e i = absurd (none-ne-some l e)
  joined_at (m ∷ ls) v zero l a e i =
      let w = in-get_or d m (subst (λ z. a ∈ z) (sym (some-injective m l e)) i) in
      (w.0, omega (arith, length-append m (joined ls)), get_or-append m (joined ls) d w.0 w.1 ∙ w.2, omega (arith, owners-first m ls v w.0 w.1))
  joined_at (m ∷ ls) v (suc u) l a e i =
      let w = joined_at ls (suc v) u l a e i in
      (length m + w.0, omega (arith, length-append m (joined ls)), get_or-append-add m (joined ls) w.0 d ∙ w.2, omega (arith, owners-rest m ls v w.0, w.3))

  -- What has a place among all is in the list whose number it has.
  pub at_joined : (ls : List (List A)) (v k : ℕ) → k < length (joined ls) → (u : ℕ) × (l : List A) × (place ls (suc u) ≡ some l) × (get_or (joined ls) k d ∈ l) × (get_or (owners v ls) k 0 ≡ u + v)
  at_joined [] v k h = absurd (omega arith)
  at_joined (m ∷ ls) v k h = go (dec_lt k (length m)) (at_joined ls (suc v) (k - length m))
    where
      go : Dec (k < length m) → (k - length m < length (joined ls) → (u : ℕ) × (l : List A) × (place ls (suc u) ≡ some l) × (get_or (joined ls) (k - length m) d ∈ l) × (get_or (owners (suc v) ls) (k - length m) 0 ≡ u + suc v))
          → (u : ℕ) × (l : List A) × (place (m ∷ ls) (suc u) ≡ some l) × (get_or (m ++ joined ls) k d ∈ l) × (get_or (owners v (m ∷ ls)) k 0 ≡ u + v)
      go (yes l) rest = (0, m, refl, Memᴰ.cast (get_or-append m (joined ls) d k l) (get_or-in d m k l), omega (arith, owners-first m ls v k l))
      go (no l) rest =
          let w = rest (omega (arith, length-append m (joined ls))) in
          let e : k ≡ length m + (k - length m) = omega arith in (
            suc w.0,
            w.1,
            w.2,
            Memᴰ.cast (ap (λ n. get_or (m ++ joined ls) n d) e ∙ get_or-append-add m (joined ls) (k - length m) d) w.3,
            omega (arith, ap (λ n. get_or (owners v (m ∷ ls)) n 0) e, owners-rest m ls v (k - length m), w.4),
          )

-- Row u's use is the use numbered u.
pub uses-place : (s : Summaries) (rows : RowList) (v u : ℕ) → u < length rows → place (uses s v rows) (suc u) ≡ some (in_place s (u + v) (row_at rows u))
uses-place s [] v u h = absurd (omega arith)
uses-place s (g ∷ rows) v zero h = rw zero-add
uses-place s (g ∷ rows) v (suc u) h = let e : u + suc v ≡ suc u + v = omega arith in uses-place s rows (suc v) u (omega arith) ∙ ap (λ n. some (in_place s n (row_at rows u))) e

pub place-uses : (s : Summaries) (rows : RowList) (v u : ℕ) (l : List (Subgoal (Term (Own ℕ)))) → place (uses s v rows) (suc u) ≡ some l → (u < length rows) × (in_place s (u + v) (row_at rows u) ≡ l)
place-uses s [] v u l e = absurd (none-ne-some l e)
place-uses s (g ∷ rows) v zero l e = (omega arith, ap (λ n. in_place s n g) (zero-add v) ∙ some-injective (in_place s v g) l e)
place-uses s (g ∷ rows) v (suc u) l e = let w = place-uses s rows (suc v) u l e in let n : suc u + v ≡ u + suc v = omega arith in (omega arith, ap (λ n. in_place s n (row_at rows u)) n ∙ w.1)
