-- Some row begins with given places exactly if the body has places where their terms are bound.
use mathlib.Core.Path.{◌≡◌, refl, ap, ◌∙◌}
use mathlib.Core.Bool.{false≢true}
use mathlib.Core.List.{List, ◌++◌}
use Prim.Native.Nat.{ℕ, ◌+◌, ◌-◌, ◌<◌}
use native.Mathlib.Omega.{arith}
use lib.ListN.{length, get_or, take, drop, length-append, length-drop, get_or-append}
use lib.Seq.{length-take-le, get_or-take}
use Rattle.std.specs.Prelude.{Option, Some, None, is_some}
use Rattle.spec.specs.Order.{ListBefore, First}
use Rattle.spec.proofs.Lists.At.{choices}
use Rattle.task.specs.Task.{Task, goals}
use Rattle.task.specs.Completion.{Completion}
use Rattle.placing.specs.SearchAnswer.{PlacesFrom}
use Rattle.summary_rows.specs.RowPlaces.{HeadTask, RowFront, OnTargets, Begins}
use Rattle.summary_rows.specs.FixedPlaces.{fixing}
use Rattle.summary_rows.proofs.OneUse.{StandsAt, StandFrom, stand-at, stand-drop, stand-join, completes-stand, stand-completes, stand-mapped}
use Rattle.summary_rows.proofs.HeadTargets.{target-found}
use Rattle.summary_rows.proofs.Fixing.{AgreeTo, fixing-forced, fixing-fits}
use Rattle.summary_rows.proofs.RowFronts.{values, whole_long, whole-stands, row-stands}

module _ (p : Task) (h : ℕ) (ready : HeadTask p h) (j : ℕ) (ks : List ℕ) (long : length ks ≡ 96) (on : OnTargets p h j ks) where
  abbrev bound : List ℕ
  bound = fixing p.source p.target ks j

  kept-long : length (take j ks) ≡ j
  kept-long = length-take-le j ks (omega (arith, on.few, ready.short))

  -- the body's places in a row that begins so complete the bindings
  completion : (f : RowFront p h (take j ks)) → Completion p h bound (drop h ((take j ks ++ f.more) ++ f.row.rest))
  completion f = record {
    val = v;
    extends = fixing-forced p ks j (λ i l. ready.single i (omega (arith, on.few))) (λ i l. ready.slots i (omega (arith, on.few))) v agree;
    completes = stand-completes p ready.one_use (goals p - h) h v (drop h whole) (length-drop h whole ∙ ap (λ n. n - h) (whole_long p h ready js f.row)) (stand-drop p v h whole (whole-stands p h ready js f.row));
  }
    where
      js : List ℕ
      js = take j ks ++ f.more

      whole : List ℕ
      whole = (take j ks ++ f.more) ++ f.row.rest

      v : ℕ → ℕ
      v = values p h ready js f.row

      agree : AgreeTo p j ks v
      agree i l = rw (get_or-append (take j ks) f.more 0 i (omega (arith, kept-long)), get_or-take j ks i 0 l) at (row-stands p h ready js f.row i (omega (arith, on.few))).agrees

  -- the places are those bound, then what the body's values give the head's other places, then the body's
  front : (l : List ℕ) → First (Completion p h bound) (ListBefore ◌<◌) l → RowFront p h (take j ks)
  front l first = record {
    more = more;
    row = record {
      rest = l;
      long = head-long;
      mapped = stand-mapped p ready.one_use v ((take j ks ++ more) ++ l) (length-append (take j ks ++ more) l ∙ omega (arith, head-long, body.0, ready.inside))
          (stand-join p v (take j ks ++ more) l (stand-at p v (take j ks ++ more) heads) (rw head-long body.1));
    };
  }
    where
      v : ℕ → ℕ
      v = first.holds.val

      body : (length l ≡ goals p - h) × StandFrom p h v l
      body = completes-stand p ready.one_use (goals p - h) h v l first.holds.completes

      others : (more : List ℕ) × (length more ≡ h - j) × ((i : ℕ) → i < h - j → StandsAt p v (j + i) (get_or more i 0))
      others = choices (λ i k. StandsAt p v (j + i) k) (h - j) (λ i m. let w = target-found p (j + i) (ready.single (j + i) (omega arith)) v (ready.safe v l first.holds.completes (j + i) (omega arith)) in (w.0, record { within = w.1; agrees = w.2 }))

      more : List ℕ
      more = others.0

      head-long : length (take j ks ++ more) ≡ h
      head-long = length-append (take j ks) more ∙ omega (arith, kept-long, others.1, on.few)

      kept : (i : ℕ) → i < length (take j ks) → StandsAt p v i (get_or (take j ks) i 0)
      kept i m =
          let o : i < j = omega (arith, kept-long) in
          rw (get_or-take j ks i 0 o) record { within = on.within i o; agrees = fixing-fits p h ready j ks on v first.holds.extends i o }

      heads : StandFrom p 0 v (take j ks ++ more)
      heads = stand-join p v (take j ks) more kept (rw kept-long (λ i m. others.2 i (omega (arith, others.1))))

  pub begins : (r : Option (List ℕ)) → PlacesFrom p h bound r → Begins p h j ks (is_some r)
  begins (Some ls) answer = record { exactly = (λ e. front answer.0 answer.2, λ f. refl) }
  begins None none = record { exactly = (λ e. absurd (false≢true e), λ f. absurd (none (drop h ((take j ks ++ f.more) ++ f.row.rest)) (completion f))) }
