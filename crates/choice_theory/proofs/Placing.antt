-- What can be done with sets of rows can be done by places, and the other way round.
use mathlib.Core.Path.{◌≡◌, sym, ap, ◌∙◌, subst}
use mathlib.Core.Logic.{◌⊎◌, inl, inr, ⊎_elim, ◌↔◌}
use mathlib.Core.Bool.{Bool}
use mathlib.Core.List.{List, map}
use Prim.Native.Nat.{ℕ, ◌<◌}
use native.Mathlib.Omega.{arith}
use native.Mathlib.Nat.{add-zero}
use lib.Dec.{ltb, ltb→lt, lt→ltb}
use lib.ListN.{length, get_or}
use Rattle.spec.specs.Words.{◌∈◌, Term, var, con, Subgoal, Rule, becomes, each}
use Rattle.spec.specs.Summaries.{Summaries, Own, old, kept, in_place, uses}
use Rattle.spec.proofs.Lists.Gathered.{passing, passing-in, passing-out, same_map}
use Rattle.spec.proofs.Lists.At.{get_or-in, in-get_or, choices, passing-split}
use Rattle.spec.proofs.Decided.Rows.{RowList}
use Rattle.containment.proofs.Suit.{terms-agree}
use Rattle.choice_theory.specs.Numbered.{nothing, row_at, InChosenUse, kept_head}
use Rattle.choice_theory.proofs.Works.{works-more}
use Rattle.choice_theory.specs.Can.{Either, CanBy}
use Rattle.choice_theory.specs.Placed.{targets, row_of, AnyPair, PlacedInRows}
use Rattle.choice_theory.proofs.Targets.{joined_at, at_joined, uses-place, place-uses}

-- Head to head: each variable of the head becomes itself, an old one.
pub keeps-head : (q : Rule ℕ) (value : ℕ → Term (Own ℕ)) → (map (becomes con value) q.head ≡ kept_head q) ↔ ((x : ℕ) → var x ∈ q.head → value x ≡ var (old x))
keeps-head q value = (λ e x m. same_map (becomes con value) (becomes con kept) q.head e (var x) m, λ h. terms-agree con value kept q.head h)

module _ (s : Summaries) (rows : RowList) {Chosen : ℕ → Type 0} where
  lands-at : (c : Subgoal (Term (Own ℕ))) → InChosenUse s rows Chosen c → (k : ℕ) × (k < length (targets s rows)) × (get_or (targets s rows) k nothing ≡ c) × Chosen (row_of s rows k)
  lands-at c l =
      let w = joined_at nothing (uses s 0 rows) 0 l.row _ c (uses-place s rows 0 l.row l.within) (rw add-zero l.inside) in
      (w.0, w.1, w.2, subst Chosen (sym (w.3 ∙ add-zero l.row)) l.chosen)

  pub at-lands : (k : ℕ) → k < length (targets s rows) → Chosen (row_of s rows k) → InChosenUse s rows Chosen (get_or (targets s rows) k nothing)
  at-lands k h c =
      let w = at_joined nothing (uses s 0 rows) 0 k h in
      let p = place-uses s rows 0 w.0 w.1 w.2 in
      let row : row_of s rows k ≡ w.0 = w.4 ∙ add-zero w.0 in
      let whole : in_place s w.0 (row_at rows w.0) ≡ w.1 = ap (λ n. in_place s n (row_at rows w.0)) (sym (add-zero w.0)) ∙ p.1 in
      record { row = w.0; within = p.0; chosen = subst Chosen row c; inside = rw whole w.3 }

module _ (s : Summaries) (q : Rule ℕ) (rows : RowList) {used may : ℕ → Type 0} {b : ℕ} where
  can-placed : CanBy s q rows used may b → PlacedInRows s q rows AnyPair used may b
  can-placed o = record {
    ks = c.0;
    maps = record { value = value; gives = o.works.gives; long = c.1; within = λ i h. (c.2 i h).0; same = λ i h. sym (c.2 i h).1 };
    pairs = λ i h. tt;
    taken = o.more;
    few = o.few;
    allowed = λ u i. (o.among u i).1;
    each = λ k m. let i = in-get_or 0 c.0 m in subst (λ z. Either used o.more (row_of s rows z)) i.2 (c.2 i.0 (omega (arith, c.1))).2;
  }
    where
      value : ℕ → Term (Own ℕ)
      value = o.works.value

      Goes : ℕ → ℕ → Type 0
      Goes i k = (k < length (targets s rows)) × (get_or (targets s rows) k nothing ≡ each (becomes con value) (get_or q.body i nothing)) × Either used o.more (row_of s rows k)

      c : (ks : List ℕ) × (length ks ≡ length q.body) × ((i : ℕ) → i < length q.body → Goes i (get_or ks i 0))
      c = choices Goes (length q.body) (λ i h. let w = lands-at s rows _ (o.works.holds (get_or q.body i nothing) (get_or-in nothing q.body i h)) in (w.0, (w.1, w.2, w.3)))

  placed-can : PlacedInRows s q rows AnyPair used may b → CanBy s q rows used may b
  placed-can p = record {
    more = real;
    among = λ u i. let w = passing-out inside p.taken i in (ltb→lt u (length rows) w.1, p.allowed u w.0);
    few = omega (arith, p.few, passing-split inside p.taken);
    works = works-more s q rows (λ u h. ⊎_elim inl (λ i. inr (passing-in inside p.taken i (lt→ltb u (length rows) h)))) record { value = p.maps.value; gives = p.maps.gives; holds = holds };
  }
    where
      inside : ℕ → Bool
      inside u = ltb u (length rows)

      real : List ℕ
      real = passing inside p.taken

      holds : (g : Subgoal (Term ℕ)) → g ∈ q.body → InChosenUse s rows (Either used p.taken) (each (becomes con p.maps.value) g)
      holds g m =
          let i = in-get_or nothing q.body m in
          let k = get_or p.ks i.0 0 in
          subst (InChosenUse s rows (Either used p.taken)) (sym (p.maps.same i.0 i.1) ∙ ap (each (becomes con p.maps.value)) i.2)
          (at-lands s rows k (p.maps.within i.0 i.1) (p.each k (get_or-in 0 p.ks i.0 (omega (arith, p.maps.long)))))

  -- By places, any pair allowed.
  pub placed-is : CanBy s q rows used may b ↔ PlacedInRows s q rows AnyPair used may b
  placed-is = (can-placed, placed-can)

  -- Other pairs, where those of a used row or of one that may be used are among them.
  pub placed-pairs : {Pair Pair' : ℕ → ℕ → Type 0} → ((i k : ℕ) → i < length q.body → k < length (targets s rows) → used (row_of s rows k) ⊎ may (row_of s rows k) → Pair i k → Pair' i k)
      → PlacedInRows s q rows Pair used may b → PlacedInRows s q rows Pair' used may b
  placed-pairs pairs p = record {
    ks = p.ks;
    maps = p.maps;
    pairs = λ i h. let k = get_or p.ks i 0 in
        pairs i k h (p.maps.within i h) (⊎_elim inl (λ j. inr (p.allowed (row_of s rows k) j)) (p.each k (get_or-in 0 p.ks i (omega (arith, p.maps.long))))) (p.pairs i h);
    taken = p.taken;
    few = p.few;
    allowed = p.allowed;
    each = p.each;
  }
