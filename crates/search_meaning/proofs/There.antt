-- The places of a mapping from the question into the uses of rows, as pairs, are the witness's first part.
use mathlib.Core.Path.{◌≡◌, refl, sym, subst}
use mathlib.Core.Logic.{◌↔◌}
use mathlib.Core.List.{List, map}
use Prim.Native.Nat.{ℕ, suc}
use lib.ListN.{length}
use Rattle.spec.specs.Words.{Term, con, Subgoal, Rule, becomes, each, Mapping}
use Rattle.spec.specs.Summaries.{Summaries, Own, uses, joined, expansion, rewriting}
use Rattle.spec.specs.Answer.{AtPlaces, There, FirstThere}
use Rattle.spec.proofs.Decided.Orders.{bytes_order}
use Rattle.spec.proofs.Decided.WitnessExists.{there-maps, maps-there}
use Rattle.outcomes.specs.Bounds.{Bounds, RowsWithin}
use Rattle.task.specs.Task.{Task}
use Rattle.task.specs.Mapped.{Mapped, FirstMapped}
use Rattle.search_meaning.specs.Uses.{pairs_of}
use Rattle.search_meaning.specs.HeadBound.{HeadBound}
use Rattle.search_meaning.specs.Tasks.{there_task}
use Rattle.search_meaning.proofs.Carried.{carried-is, carried_first, carried_none}
use Rattle.search_meaning.proofs.Pairs.{pairs-before, places-pairs, pairs-places}
use Rattle.search_meaning.proofs.Into.{Into, into-is}

module _ (arities : List ℕ) (s : Summaries) (q : Rule ℕ) (bounds : Bounds arities s q) (l : List (Subgoal (Term ℕ))) (rows : RowsWithin s l)
    (lasts own b : List ℕ) (owned : length own ≡ length (joined (uses s 0 l))) (head : HeadBound q.head b) where
  abbrev p : Task
  p = there_task s q l lasts own

  abbrev ls : List (List (Subgoal (Term (Own ℕ))))
  ls = uses s 0 l

  into-law : (places : List ℕ) → Mapped p b places ↔ Into s q l places
  into-law = into-is arities s q bounds l rows lasts own b owned head

  forth : (places : List ℕ) → Mapped p b places → There s q (rewriting q l) (pairs_of ls places)
  forth places m = let t = (into-law places).0 m in record {
    targets = map (each (becomes con t.value)) q.body;
    named = places-pairs ls places (map (each (becomes con t.value)) q.body) t.sends;
    mapping = record { value = t.value; gives = t.gives; sends = refl };
  }

  back : (bytes : List ℕ) → There s q (rewriting q l) bytes → (places : List ℕ) × (pairs_of ls places ≡ bytes) × Mapped p b places
  back bytes t =
      let w = pairs-places ls bytes t.targets t.named in
      (w.0, w.1, (into-law w.0).1 record { value = t.mapping.value; gives = t.mapping.gives; sends = subst (AtPlaces (joined ls) (map suc w.0)) (sym t.mapping.sends) w.2 })

  -- The laws: a mapping's places, the first of them, none of them.
  pub there-is : (places : List ℕ) → Mapped p b places ↔ There s q (rewriting q l) (pairs_of ls places)
  there-is = carried-is bytes_order bytes_order (pairs_of ls) (pairs-before ls) forth back

  pub there-first : (places : List ℕ) → FirstMapped p b places ↔ FirstThere s q (rewriting q l) (pairs_of ls places)
  there-first = carried_first bytes_order bytes_order (pairs_of ls) (pairs-before ls) forth back

  pub there-none : ((places : List ℕ) → Mapped p b places → ⊥) ↔ ((bytes : List ℕ) → There s q (rewriting q l) bytes → ⊥)
  there-none = carried_none bytes_order bytes_order (pairs_of ls) (pairs-before ls) forth back

  -- There are such places exactly if there is a containment mapping.
  pub there-some : ((places : List ℕ) × Mapped p b places) ↔ Mapping q (expansion s (rewriting q l))
  there-some = (
    λ m. there-maps s q (rewriting q l) (pairs_of ls m.0) (forth m.0 m.1),
    λ m. let w = maps-there s q (rewriting q l) m in let t = back w.0 w.1.holds in (t.0, t.2),
  )
