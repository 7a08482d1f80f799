use native.Mathlib.Omega.{arith}
use Rattle.std.proofs.lemmas.Bool.{not-false, not-true}
use Rattle.rules.proofs.Verdicts.{judged-broken, judged-unsafe, judged-plain, judged-repeating, judged-question}
use Rattle.rules.proofs.judge.Goals as goal
use Rattle.rules.proofs.judge.Goals.{else-summary-via-then-summary+else-not-notes, else-summary-via-else-summary}

pub returns-in_default : goal.returns-in_default
returns-in_default c = let a = c.args in judged-broken a.relations.now a.most a.summary a.body.now _ _ c.read_rule-read.ensures c.unwrap_err.ensures

pub returns-then-not-within : goal.returns-then-not-within
returns-then-not-within c = let a = c.args in judged-unsafe a.relations.now a.most a.summary a.body.now (λ i. omega (arith, c.type_inv.body i)) _ _ c.read_rule-read.ensures c.in-Ok.is _ c.within.ensures c.if-not-within.true

pub returns-then-not-notes : goal.returns-then-not-notes
returns-then-not-notes c = let a = c.args in judged-repeating a.relations.now a.most a.summary a.body.now (λ i. omega (arith, c.type_inv.body i)) _ _ c.read_rule-read.ensures c.in-Ok.is _ c.within.ensures c.if-not-within.false (not-true _ c.if-not-notes.true) c.if-summary.true

pub returns : goal.returns
returns c =
    let a = c.args in
    elim c.else-summary.branch [
      | else-summary-via-then-summary+else-not-notes w ↦ judged-plain a.relations.now a.most a.summary a.body.now (λ i. omega (arith, c.type_inv.body i)) _ _ c.read_rule-read.ensures c.in-Ok.is _ c.within.ensures c.if-not-within.false (not-false _ w.if-not-notes.false)
      | else-summary-via-else-summary w ↦ judged-question a.relations.now a.most a.summary a.body.now (λ i. omega (arith, c.type_inv.body i)) _ _ c.read_rule-read.ensures c.in-Ok.is _ c.within.ensures c.if-not-within.false w.if-summary.false
    ]
