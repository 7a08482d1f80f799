-- The next place of a row: target after target is tried, from some one on.
use mathlib.Core.Path.{◌≡◌, refl, sym, ap, ◌∙◌, subst}
use mathlib.Core.Logic.{◌⊎◌, inl, inr}
use mathlib.Core.Bool.{true, false, false≢true}
use mathlib.Core.List.{List, [], ◌∷◌, ◌++◌}
use Prim.Native.Nat.{ℕ, ◌+◌, ◌<◌, ◌≤◌}
use native.Mathlib.Omega.{arith}
use native.Mathlib.Decide.{dec_lt}
use lib.ListN.{length, get_or, set, take, length-append, get_or-append}
use lib.Seq.{get_or-set_same, get_or-set_other, get_or-append-add}
use Rattle.task.specs.Task.{Task, targets, source_relation, target_relation}
use Rattle.summary_rows.specs.RowPlaces.{HeadTask, RowFront, FrontNeeds, OnTargets, Begins, RowGoesOn, PlacePut}
use Rattle.spec.proofs.Lists.Parts.{front-put}
use Rattle.summary_rows.proofs.OneUse.{StandsAt}
use Rattle.summary_rows.proofs.RowFronts.{values, row-stands, front_long, front-stands}

-- no target before `next` is one
pub record TargetsTried (p : Task) (h j : ℕ) (ks : List ℕ) (from next : ℕ) : Type 0 where
  pub reached : from ≤ next
  pub none : (k : ℕ) → RowGoesOn p h j ks from k → k < next → ⊥

module _ (p : Task) (h : ℕ) (ready : HeadTask p h) (j : ℕ) (ks : List ℕ) (long : length ks ≡ 96) (at : FrontNeeds p h j ks) (low : j < h) (from : ℕ) where
  put : (k : ℕ) → take (j + 1) (set ks j k) ≡ take j ks ++ (k ∷ [])
  put k = front-put ks j k (omega (arith, ready.short))

  -- the place of a row is a target of the head's relation
  goes-stands : (k : ℕ) → RowGoesOn p h j ks from k → (v : ℕ → ℕ) × StandsAt p v j k
  goes-stands k g = (values p h ready js g.front.row, rw here at (row-stands p h ready js g.front.row j low))
    where
      js : List ℕ
      js = (take j ks ++ (k ∷ [])) ++ g.front.more

      here : get_or js j 0 ≡ k
      here =
          let n : j ≡ length (take j ks) + 0 = omega (arith, front_long p h ready j ks long at) in
          get_or-append (take j ks ++ (k ∷ [])) g.front.more 0 j (omega (arith, length-append (take j ks) (k ∷ []), front_long p h ready j ks long at))
          ∙ ap (λ i. get_or (take j ks ++ (k ∷ [])) i 0) n ∙ get_or-append-add (take j ks) (k ∷ []) 0 0

  passed-more : (k : ℕ) → TargetsTried p h j ks from k → (RowGoesOn p h j ks from k → ⊥) → TargetsTried p h j ks from (k + 1)
  passed-more k s n = record { reached = omega (arith, s.reached); none = λ i g l. go i g l (dec_lt i k) }
    where
      go : (i : ℕ) → RowGoesOn p h j ks from i → i < k + 1 → Dec (i < k) → ⊥
      go i g l (yes o) = s.none i g o
      go i g l (no o) = let q : i ≡ k = omega arith in n (rw q at g)

  pub on-more : (k : ℕ) → k < targets p → target_relation p k ≡ source_relation p j → OnTargets p h (j + 1) (set ks j k)
  on-more k o e = record { few = omega arith; within = λ i l. (stands i l (dec_lt i j)).0; relation = λ i l. (stands i l (dec_lt i j)).1 }
    where
      stands : (i : ℕ) → i < j + 1 → Dec (i < j) → (get_or (set ks j k) i 0 < targets p) × (target_relation p (get_or (set ks j k) i 0) ≡ source_relation p i)
      stands i l (yes b) = let s = (front-stands p h ready j ks long at i b).1 in rw (get_or-set_other ks j i k 0 (λ q. omega arith)) (s.within, s.agrees.relation)
      stands i l (no b) = let q : i ≡ j = omega arith in rw (q, get_or-set_same ks j k 0 (omega (arith, ready.short))) (o, e)

  -- no row begins with it
  pub passed-not : (k : ℕ) → TargetsTried p h j ks from k → Begins p h (j + 1) (set ks j k) false → TargetsTried p h j ks from (k + 1)
  passed-not k s b = passed-more k s (λ g. false≢true (b.exactly.1 (subst (RowFront p h) (sym (put k)) g.front)))

  pub place_found : (k : ℕ) → TargetsTried p h j ks from k → Begins p h (j + 1) (set ks j k) true → PlacePut p h j ks from (set ks j k)
  place_found k s b = record {
    place = k;
    put = refl;
    first = record { holds = record { later = s.reached; front = subst (RowFront p h) (put k) (b.exactly.0 refl) }; least = λ i g. least i g (dec_lt k i) };
  }
    where
      least : (i : ℕ) → RowGoesOn p h j ks from i → Dec (k < i) → (k ≡ i) ⊎ (k < i)
      least i g (yes o) = inr o
      least i g (no o) = inl (go (dec_lt i k))
        where
          go : Dec (i < k) → k ≡ i
          go (yes l) = absurd (s.none i g l)
          go (no l) = omega arith

  pub place_none : (next : ℕ) → targets p ≤ next → TargetsTried p h j ks from next → (k : ℕ) → RowGoesOn p h j ks from k → ⊥
  place_none next l s k g = s.none k g (omega (arith, (goes-stands k g).1.within))
