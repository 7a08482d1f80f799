-- Whether some mapping lies within few rows, on codes and over the uses of all rows.
use mathlib.Core.Path.{◌≡◌, sym, ◌∙◌}
use mathlib.Core.Logic.{◌↔◌}
use mathlib.Core.List.{List, map}
use Prim.Native.Nat.{ℕ, ◌<◌, ◌≤◌}
use native.Mathlib.Omega.{arith}
use lib.ListN.{length, length-map}
use Rattle.spec.specs.Words.{Term, con, Subgoal, Rule, becomes, each}
use Rattle.spec.specs.Summaries.{Summaries, uses, joined}
use Rattle.spec.proofs.Lists.At.{map_get}
use Rattle.choice_theory.specs.Numbered.{nothing, kept_head}
use Rattle.choice_theory.specs.MapsAt.{MapsAt}
use Rattle.choice_theory.specs.Can.{CanBy}
use Rattle.choice_theory.specs.Placed.{PlacedInRows, owners, AnyPair}
use Rattle.choice_theory.proofs.Placing.{placed-is}
use Rattle.outcomes.specs.Bounds.{Bounds, RowsWithin}
use Rattle.bits.specs.Sets.{Has}
use Rattle.task.specs.Task.{Task, Sized}
use Rattle.task.specs.Mapped.{Mapped, Feasible}
use Rattle.search_meaning.specs.HeadBound.{HeadBound}
use Rattle.search_meaning.specs.Tasks.{there_task}
use Rattle.search_meaning.proofs.AtPlaces.{Indexed, places-indexed, indexed-places}
use Rattle.search_meaning.proofs.Owners.{owners-long, owners-below}
use Rattle.search_meaning.proofs.Into.{Into, into-is, there-sized}

module _ (s : Summaries) (q : Rule ℕ) (rows : List (Subgoal (Term ℕ))) (places : List ℕ) where
  -- the same, place by place
  into-maps : Into s q rows places → MapsAt q (kept_head q) (joined (uses s 0 rows)) places
  into-maps t = record {
    value = t.value;
    gives = t.gives;
    long = w.long ∙ long;
    within = λ i h. w.within i (omega (arith, long));
    same = λ i h. sym (map_get (each (becomes con t.value)) q.body i nothing nothing h) ∙ sym (w.stands i (omega (arith, long)));
  }
    where
      long : length (map (each (becomes con t.value)) q.body) ≡ length q.body
      long = length-map q.body (each (becomes con t.value))

      w : Indexed nothing (joined (uses s 0 rows)) places (map (each (becomes con t.value)) q.body)
      w = places-indexed nothing (joined (uses s 0 rows)) places (map (each (becomes con t.value)) q.body) t.sends

  maps-into : MapsAt q (kept_head q) (joined (uses s 0 rows)) places → Into s q rows places
  maps-into t = record {
    value = t.value;
    gives = t.gives;
    sends = indexed-places nothing (joined (uses s 0 rows)) places (map (each (becomes con t.value)) q.body) record {
      long = t.long ∙ sym long;
      within = λ i h. t.within i (omega (arith, long));
      stands = λ i h. let o : i < length q.body = omega (arith, long) in sym (t.same i o) ∙ sym (map_get (each (becomes con t.value)) q.body i nothing nothing o);
    };
  }
    where
      long : length (map (each (becomes con t.value)) q.body) ≡ length q.body
      long = length-map q.body (each (becomes con t.value))

module _ (arities : List ℕ) (s : Summaries) (q : Rule ℕ) (bounds : Bounds arities s q) (rows : List (Subgoal (Term ℕ))) (good : RowsWithin s rows) (lasts b : List ℕ) where
  abbrev p : Task
  p = there_task s q rows lasts (owners 0 (uses s 0 rows))

  owned : length (owners 0 (uses s 0 rows)) ≡ length (joined (uses s 0 rows))
  owned = owners-long 0 (uses s 0 rows)

  pub feasible-sized : length rows ≤ 64 → length lasts ≡ length q.body → Sized p
  feasible-sized few marked = there-sized arities s q bounds rows good lasts (owners 0 (uses s 0 rows)) b owned few marked (owners-below s rows few)

  module _ (head : HeadBound q.head b) where
    into-law : (places : List ℕ) → Mapped p b places ↔ Into s q rows places
    into-law = into-is arities s q bounds rows good lasts (owners 0 (uses s 0 rows)) b owned head

    module _ (used may left : ℕ) where
      feasible-placed : Feasible p b used may left → PlacedInRows s q rows AnyPair (Has used) (Has may) left
      feasible-placed f = record {
        ks = f.places;
        maps = into-maps s q rows f.places ((into-law f.places).0 f.mapped);
        pairs = λ i h. tt;
        taken = f.within.taken;
        few = f.within.few;
        allowed = f.within.allowed;
        each = f.within.each;
      }

      placed-feasible : PlacedInRows s q rows AnyPair (Has used) (Has may) left → Feasible p b used may left
      placed-feasible t = record {
        places = t.ks;
        mapped = (into-law t.ks).1 (maps-into s q rows t.ks t.maps);
        within = record { taken = t.taken; few = t.few; allowed = t.allowed; each = t.each };
      }

      -- The law.
      pub feasible-is : Feasible p b used may left ↔ CanBy s q rows (Has used) (Has may) left
      feasible-is = (λ f. (placed-is s q rows).1 (feasible-placed f), λ c. placed-feasible ((placed-is s q rows).0 c))
