use borrow.Author.Rules.{rules}
use mathlib.Core.Path.{refl, sym, ◌∙◌}
use native.Mathlib.Omega.{arith}
use borrow.Author.Tests.{not-true, eqb-true, eqb-false}
use Rattle.task.proofs.Slots.{stood-none}
use Rattle.task.proofs.Stepping.{guessed-start, guessed-same, guessed-new, leads-beyond, leads-relation, leads-unlike, leads-on}
use Rattle.task.proofs.pass.step.Goals as goal
use Rattle.task.proofs.pass.step.Goals.{then-have-eq0, else-have-eq0+else-not-alike}

pub returns-then-task-k : goal.returns-then-task-k
returns-then-task-k c = leads-beyond _ _ _ _ c.if-task-k.true

pub returns-then-not-is_related : goal.returns-then-not-is_related
returns-then-not-is_related c = leads-relation _ _ _ _ (λ e. search rules)

pub loop-a-init : goal.loop-a-init
loop-a-init c = guessed-start _ _ _ _ (omega arith)

pub offset_bounds-g-x : goal.offset_bounds-g-x
offset_bounds-g-x c = omega (arith, stood-none _ _ (sym c.stands-have.ensures ∙ c.if-have-eq0.true))

pub bounds-g-x : goal.bounds-g-x
bounds-g-x c = omega (arith, stood-none _ _ (sym c.stands-have.ensures ∙ c.if-have-eq0.true))

pub returns-then-not-alike : goal.returns-then-not-alike
returns-then-not-alike c =
    let stands = rw c.source_term-x.ensures at c.stands-have.ensures in
    let alike = rw c.target_term-y.ensures at c.alike.ensures in
    let l = c.loop-a in
    leads-unlike _ _ _ _ l.a l.g _ l.invariant (omega (arith, c.width-a-end.ensures.0, c.loop-a-test.true)) (λ e. c.if-have-eq0.false (stands ∙ e)) (λ e. eqb-false _ _ (sym alike ∙ not-true _ c.if-not-alike.true-raw) (stands ∙ e))

pub loop-a-preserved : goal.loop-a-preserved
loop-a-preserved c =
    let stands = rw c.source_term-x.ensures at c.stands-have.ensures in
    let l = c.loop-a in
    elim c.if-have-eq0.branch [
      | then-have-eq0 w ↦ rw (w.g-is, c.target_term-y.ensures, c.source_term-x.ensures) (guessed-new _ _ _ _ _ _ l.invariant (sym stands ∙ w.if-have-eq0.true) (c.args.task.now.sized.solid c.args.k l.a c.if-task-k.false (omega (arith, c.width-a-end.ensures.1, c.loop-a-test.true))))
      | else-have-eq0+else-not-alike w ↦ rw w.g-is (guessed-same _ _ _ _ _ _ l.invariant (λ e. w.if-have-eq0.false (stands ∙ e)) (sym stands ∙ eqb-true _ _ (sym w.alike.ensures ∙ w.if-not-alike.false) ∙ c.target_term-y.ensures))
    ]

pub returns : goal.returns
returns c =
    let l = c.loop-a in
    leads-on _ _ _ _ l.a l.g _ l.invariant (omega (arith, c.width-a-end.ensures.0)) (omega (arith, c.width-a-end.ensures.0, c.loop-a-test.false)) c.if-task-k.false (c.if-not-is_related.ensures.0 refl) c.opened.ensures
