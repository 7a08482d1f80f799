use mathlib.Core.Path.{sym, ◌∙◌}
use borrow.Author.Rules.{rules}
use native.Mathlib.Omega.{arith}
use borrow.Author.Tests.{eqb-true, eqb-false}
use Rattle.std.specs.Prelude.{Ok, Err}
use Rattle.task.proofs.Slots.{stood-none}
use Rattle.task.proofs.Guess.{guess-same, guess-new, guess-full}
use Rattle.placing.proofs.Refuted.{refuted-start, refuted-relation, refuted-row, refuted-unlike, refuted-below}
use Rattle.placing.proofs.Answered.{answer-end, answer-none, answer-hopeless, answer-found, answer-below}
use Rattle.placing.proofs.+place.Goals as goal
use Rattle.placing.proofs.+place.Goals.{then-have-eq0, else-have-eq0+else-not-alike}

pub returns-then-task-at : goal.returns-then-task-at
returns-then-task-at t c = answer-end _ _ _ _ c.if-task-at.true (omega arith)

pub candidates-init : goal.candidates-init
candidates-init t c = refuted-start _ _ _ _ _

pub candidates-preserved-then-not-is_related : goal.candidates-preserved-then-not-is_related
candidates-preserved-then-not-is_related t c = refuted-relation _ _ _ _ _ _ (λ e. search rules) c.candidates.invariant

pub candidates-preserved-in-Err : goal.candidates-preserved-in-Err
candidates-preserved-in-Err t c = rw c.shorted-why.ensures (refuted-row _ _ _ _ _ _ _ c.in-Err.ensures c.candidates.invariant)

pub offset_bounds-g-x : goal.offset_bounds-g-x
offset_bounds-g-x t c = omega (arith, stood-none _ _ (sym c.stands-have.ensures ∙ c.if-have-eq0.true))

pub bounds-g-x : goal.bounds-g-x
bounds-g-x t c = omega (arith, stood-none _ _ (sym c.stands-have.ensures ∙ c.if-have-eq0.true))

pub candidates-preserved-then-not-alike : goal.candidates-preserved-then-not-alike
candidates-preserved-then-not-alike t c =
    let l = c.loop-a in
    let stood = rw c.source_term-x.ensures at c.stands-have.ensures in
    rw (c.blamed-why.ensures, c.source_term-x.ensures, l.invariant.0) (refuted-unlike _ _ _ _ _ l.a l.g l.new l.invariant.1 _ (omega arith) (λ e. c.if-have-eq0.false (stood ∙ e)) (λ e. eqb-false _ _ (sym c.if-not-alike.ensures) (stood ∙ e ∙ sym c.target_term-y.ensures)) c.candidates.invariant)

pub loop-a-preserved : goal.loop-a-preserved
loop-a-preserved t c =
    let l = c.loop-a in
    let stood = rw c.source_term-x.ensures at c.stands-have.ensures in (
      l.invariant.0,
      elim c.if-have-eq0.branch [
        | then-have-eq0 w ↦ rw (w.g-is, w.new-is, w.noted-new.ensures, c.source_term-x.ensures, c.target_term-y.ensures) (guess-new _ _ _ _ _ _ _ l.invariant.1 (sym stood ∙ w.if-have-eq0.true) (c.args.task.now.sized.solid c.candidates.k l.a c.candidates-test.true (omega arith)))
        | else-have-eq0+else-not-alike w ↦ rw (w.g-is, w.new-is) (guess-same _ _ _ _ _ _ _ l.invariant.1 (λ e. w.if-have-eq0.false (stood ∙ e)) (sym stood ∙ eqb-true _ _ (sym w.alike.ensures ∙ w.if-not-alike.false) ∙ c.target_term-y.ensures))
      ],
    )

pub returns-in-Ok-place : goal.returns-in-Ok-place
returns-in-Ok-place t c =
    let l = c.loop-a in
    let entered = c.in-Ok.ensures in
    let found = answer-below _ _ _ _ _ _ entered (Ok c.in-Ok-place.ks) c.in-Ok-place.ensures in
    answer-found _ _ _ _ c.if-task-at.false _ _ _ _ (guess-full _ _ _ _ _ _ _ _ (omega arith) (omega arith) l.invariant.1) c.opened.ensures _ c.candidates-test.true (search rules) entered.afforded c.candidates.invariant found.0 found.2 _ found.1

pub returns-then-settled : goal.returns-then-settled
returns-then-settled t c =
    let l = c.loop-a in
    let entered = c.in-Ok.ensures in
    let more = c.seen-more.ensures in
    let failed = answer-below _ _ _ _ _ _ entered (Err c.in-Err-place.below) c.in-Err-place.ensures in
    rw more (answer-hopeless _ _ _ _ c.if-task-at.false _ _ _ _ (guess-full _ _ _ _ _ _ _ _ (omega arith) (omega arith) l.invariant.1) c.opened.ensures _ failed _ entered.free.0 (rw more at (c.settled.ensures.exactly.0 c.if-settled.true)))

pub candidates-preserved : goal.candidates-preserved
candidates-preserved t c =
    let l = c.loop-a in
    let entered = c.in-Ok.ensures in
    let failed = answer-below _ _ _ _ _ _ entered (Err c.in-Err-place.below) c.in-Err-place.ensures in
    rw (c.joined-why.ensures, c.seen-more.ensures, l.invariant.0) (refuted-below _ _ _ _ _ _ _ _ (guess-full _ _ _ _ _ _ _ _ (omega arith) (omega arith) l.invariant.1) c.opened.ensures _ failed _ c.candidates.invariant)

pub returns : goal.returns
returns t c = answer-none _ _ _ _ c.if-task-at.false _ _ c.candidates-test.false c.candidates.invariant
