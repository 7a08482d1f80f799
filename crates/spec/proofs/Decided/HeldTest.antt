-- "each admitted summary holds just what its definition yields": whether this is so of listed facts and listed rows, as a test.
use mathlib.Core.Path.{◌≡◌, refl, sym, subst}
use mathlib.Core.Bool.{Bool, true, ◌&&◌}
use mathlib.Core.Option.{Option, some, none}
use mathlib.Core.List.Memᴰ
use mathlib.Core.List.{List, map}
use Prim.Native.Nat.{ℕ}
use native.Mathlib.Omega.{arith}
use lib.Dec.{T}
use lib.ListN.{length}
use Rattle.spec.specs.Words.{◌∈◌, Subgoal, Rule, Listed, Yields, itself}
use Rattle.spec.specs.Summaries.{Summaries, summary, HoldJust}
use Rattle.spec.proofs.Decided.Sound.{AllSafe}
use Rattle.spec.proofs.Lists.Tests.{and_parts, and_both, every, every-sound, every-complete, any, any-sound, any-complete}
use Rattle.spec.proofs.Decided.Equal.{eq_number, eq_subgoal}
use Rattle.spec.proofs.Lists.Gathered.{gather, gather-in, gather-out, from, from_out}
use Rattle.spec.proofs.Lists.Counted.{counted, counted-in}
use Rattle.spec.proofs.Decided.Decide.{yields, yields-sound, yields-complete}
use Rattle.spec.proofs.Decided.RowsYielded.{yielded, yielded-sound, yielded-complete}
use Rattle.spec.proofs.Decided.Rows.{summary-within}
use Rattle.spec.proofs.Examples.FactExamples.{fact}

module _ (s : Summaries) (facts stored : List (Subgoal ℕ)) where
  -- no row too many: each stored row of an admitted summary is one that its definition yields
  abbrev rightly : Option (Rule ℕ) → List ℕ → Bool
  rightly none row = true
  rightly (some r) row = yields eq_number eq_number itself r facts row

  abbrev rightly_stored : Subgoal ℕ → Bool
  rightly_stored f = rightly (summary s f.relation) f.terms

  -- no row too few: each row that a definition yields is stored
  abbrev rows_by : ℕ → Rule ℕ → List (Subgoal ℕ)
  rows_by n r = map (fact n) (yielded eq_number eq_number itself r facts)

  abbrev rows_of : ℕ → List (Subgoal ℕ)
  rows_of n = from (rows_by n) (summary s n)

  abbrev is_stored : Subgoal ℕ → Bool
  is_stored f = any ((eq_subgoal eq_number).test f) stored

  abbrev pub just_held : Bool
  just_held = every rightly_stored stored && every is_stored (gather rows_of (counted 1 (length s)))

  pub held-sound : AllSafe s → T just_held → HoldJust s (Listed facts) (Listed stored)
  held-sound safe h f r e = (few, many)
    where
      w : T (every rightly_stored stored) × T (every is_stored (gather rows_of (counted 1 (length s))))
      w = and_parts (every rightly_stored stored) (every is_stored (gather rows_of (counted 1 (length s)))) h

      few : f ∈ stored → Yields itself r (Listed facts) f.terms
      few m = yields-sound eq_number eq_number itself r facts f.terms (subst (λ o. T (rightly o f.terms)) e (every-sound rightly_stored stored w.0 f m))

      many : Yields itself r (Listed facts) f.terms → f ∈ stored
      many y =
          let within = summary-within s f.relation r e in
          let i = Memᴰ.map (fact f.relation) (yielded-complete eq_number eq_number itself r facts (safe f.relation r e) f.terms y) in
          let j : f ∈ rows_of f.relation = subst (λ o. f ∈ from (rows_by f.relation) o) (sym e) i in
          let k = gather-in rows_of (counted 1 (length s)) (counted-in 1 (length s) f.relation within.0 (omega arith)) j in
          let found = any-sound ((eq_subgoal eq_number).test f) stored (every-sound is_stored (gather rows_of (counted 1 (length s))) w.1 f k) in
          Memᴰ.cast ((eq_subgoal eq_number).sound f found.0 found.2) found.1

  pub held-complete : HoldJust s (Listed facts) (Listed stored) → T just_held
  held-complete h = and_both (every rightly_stored stored) (every is_stored (gather rows_of (counted 1 (length s)))) (every-complete rightly_stored stored few) (every-complete is_stored (gather rows_of (counted 1 (length s))) many)
    where
      few : (f : Subgoal ℕ) → f ∈ stored → T (rightly_stored f)
      few f m = go (summary s f.relation) refl
        where
          go : (o : Option (Rule ℕ)) → summary s f.relation ≡ o → T (rightly o f.terms)
          go none e = tt
          go (some r) e = yields-complete eq_number eq_number itself r facts f.terms ((h f r e).0 m)

      many : (f : Subgoal ℕ) → f ∈ gather rows_of (counted 1 (length s)) → T (is_stored f)
      many f m =
          let n = gather-out rows_of (counted 1 (length s)) m in
          let r = from_out (rows_by n.0) (summary s n.0) n.2 in
          let w = Memᴰ.of_map (fact n.0) (yielded eq_number eq_number itself r.0 facts) r.2 in
          let own = fact n.0 w.0 in
          subst (λ g. T (is_stored g)) w.2 (any-complete ((eq_subgoal eq_number).test own) stored own ((h own r.0 r.1).1 (yielded-sound eq_number eq_number itself r.0 facts w.0 w.1)) ((eq_subgoal eq_number).same own))
