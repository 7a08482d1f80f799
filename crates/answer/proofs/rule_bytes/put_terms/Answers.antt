use mathlib.Core.Path.{ap, ◌∙◌}
use Prim.Native.Nat.{◌+◌, ◌*◌}
use lib.ListN.{get_or}
use lib.Seq.{sets}
use Rattle.answer.specs.Bytes.{code_bytes}
use Rattle.answer.proofs.RuleStores.{term-stored}
use Rattle.answer.proofs.rule_bytes.put_terms.Goals as goal

pub loop-i-preserved : goal.loop-i-preserved
loop-i-preserved c =
    let a = c.args in
    let l = c.loop-i in
    c.put_term.ensures ∙ ap (λ o. sets o (a.at + 5 * l.i) (code_bytes (get_or a.codes.now l.i 0))) l.invariant ∙ term-stored a.out.now a.codes.now a.at l.i c.loop-i-test.true
