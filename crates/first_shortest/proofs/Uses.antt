-- Whether a row dominates another, on codes.
use mathlib.Core.Path.{◌≡◌, refl, sym, subst}
use mathlib.Core.Bool.{Bool, false≢true}
use mathlib.Core.Logic.{◌↔◌}
use mathlib.Core.List.{List}
use Rattle.std.specs.Prelude.{Option, Some, None, is_some}
use Prim.Native.Nat.{ℕ}
use lib.ListN.{replicate}
use Rattle.spec.specs.Summaries.{Summaries}
use Rattle.spec.proofs.Lists.Zeros.{zero-at}
use Rattle.spec.proofs.Decided.Rows.{RowList}
use Rattle.choice_theory.specs.Dominates.{Dominates}
use Rattle.bits.proofs.Laws.{exactly-once}
use Rattle.task.specs.Task.{Task, Sized}
use Rattle.task.specs.Mapped.{Mapped}
use Rattle.placing.specs.FirstPlaces.{FirstPlaces}
use Rattle.search_meaning.specs.Coded.{Bound}
use Rattle.search_meaning.proofs.Dominance.{use-sized, dominates-is}
use Rattle.first_shortest.specs.Pruning.{UsesBy, DominanceNeeds, DominanceSays}

module _ {s : Summaries} {rows : RowList} {d r : ℕ} {t : Task} (p : UsesBy s rows d r t) where
  sized-by : Sized t
  sized-by = subst Sized (sym p.codes) (use-sized p.arities s p.question p.bounds rows p.within d r p.over p.under t.lasts t.own (replicate 64 0) p.owned p.marked p.sets)

  mapped-dominates : ((l : List ℕ) × Mapped t (replicate 64 0) l) ↔ Dominates s rows d r
  mapped-dominates =
      let e = dominates-is p.arities s p.question p.bounds rows p.within d r p.over p.under t.lasts t.own (replicate 64 0) p.owned free in
      (λ m. e.0 (m.0, subst (λ z. Mapped z (replicate 64 0) m.0) p.codes m.1), λ o. let m = e.1 o in (m.0, subst (λ z. Mapped z (replicate 64 0) m.0) (sym p.codes) m.1))
    where
      free : (x : ℕ) → Bound (replicate 64 0) x → ⊥
      free x h = h (zero-at 64 x)

pub uses-sized : {t : Task} → DominanceNeeds t → Sized t
uses-sized u = sized-by u.by

pub tells : {t : Task} (r : Option (List ℕ)) → FirstPlaces t (replicate 64 0) r → DominanceSays t (is_some r)
tells (Some ks) f = record { exactly = λ s rows d r p. (λ z. (mapped-dominates p).0 (f.0, f.2.holds), λ h. refl) }
tells None f = record { exactly = λ s rows d r p. (λ z. absurd (false≢true z), λ h. let m = (mapped-dominates p).1 h in absurd (f m.0 m.1)) }

-- two answers that meet the promise are the same
pub dominates-once : {t : Task} → DominanceNeeds t → (a b : Bool) → DominanceSays t a → DominanceSays t b → a ≡ b
dominates-once u a b f g = exactly-once a b (f.exactly _ _ _ _ u.by) (g.exactly _ _ _ _ u.by)
