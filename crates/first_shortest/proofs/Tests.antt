-- What the search answers on codes is whether rows can do.
use mathlib.Core.Path.{sym, subst}
use mathlib.Core.Logic.{◌↔◌}
use mathlib.Core.List.{List}
use Prim.Native.Nat.{ℕ}
use native.Mathlib.Omega.{arith}
use Rattle.spec.specs.Words.{Rule}
use Rattle.spec.specs.Summaries.{Summaries}
use Rattle.spec.proofs.Decided.Rows.{RowList}
use Rattle.choice_theory.specs.Can.{CanBy}
use Rattle.bits.specs.Sets.{Has}
use Rattle.task.specs.Task.{Task, Sized}
use Rattle.task.specs.Mapped.{Feasible}
use Rattle.search_meaning.proofs.Feasibility.{feasible-is, feasible-sized}
use Rattle.first_shortest.specs.Posed.{PosedBy, Posed}

module _ {s : Summaries} {q : Rule ℕ} {rows : RowList} {t : Task} {b : List ℕ} {n : ℕ} (p : PosedBy s q rows t b n) where
  pub posed-sized : Sized t
  posed-sized = subst Sized (sym p.codes) (feasible-sized p.arities s q p.bounds rows p.within t.lasts b (omega (arith, p.count, p.few)) p.marked)

  -- The law.
  pub feasible-can : (used may left : ℕ) → Feasible t b used may left ↔ CanBy s q rows (Has used) (Has may) left
  feasible-can used may left =
      let f = feasible-is p.arities s q p.bounds rows p.within t.lasts b p.head used may left in
      (λ h. f.0 (subst (λ z. Feasible z b used may left) p.codes h), λ h. subst (λ z. Feasible z b used may left) (sym p.codes) (f.1 h))

pub posed-few : {t : Task} {b : List ℕ} {n : ℕ} → Posed t b n → Sized t
posed-few p = posed-sized p.by
