use mathlib.Core.Path.{ap, ◌∙◌}
use Prim.Native.Nat.{◌+◌}
use native.Mathlib.Omega.{arith}
use Rattle.std.specs.Prelude.{Ok}
use Rattle.rules.specs.Marked.{mark}
use Rattle.rules.proofs.TermSteps.{at-end, bad-tag, cut, constant, variable, bad-variable}
use Rattle.rules.proofs.subgoals.read_term.Goals as goal

pub returns-in_default : goal.returns-in_default
returns-in_default c = let f = c.args.front in at-end (mark f.notes) c.args.body.now f.at c.in_default.ensures.lookup.3

pub returns-then-tag-gt1 : goal.returns-then-tag-gt1
returns-then-tag-gt1 c = let f = c.args.front in bad-tag (mark f.notes) c.args.body.now f.at _ c.in-Some.ensures.lookup.3 c.if-tag-gt1.true

pub returns-then-body-front-lt5 : goal.returns-then-body-front-lt5
returns-then-body-front-lt5 c =
    let f = c.args.front in
    cut (mark f.notes) c.args.body.now f.at _ c.in-Some.ensures.lookup.3 (omega arith) (omega arith)

pub returns-then-tag-eq1 : goal.returns-then-tag-eq1
returns-then-tag-eq1 c =
    let f = c.args.front in
    ap (λ m. Ok (record { at = f.at + 5; notes = m })) (c.with_constant.ensures c.u32_at-n.result)
    ∙ constant (mark f.notes) c.args.body.now f.at _ c.in-Some.ensures.lookup.3 _ (omega arith) c.u32_at-n.ensures c.if-tag-eq1.true

pub returns-then-n-lt-VARIABLE_END : goal.returns-then-n-lt-VARIABLE_END
returns-then-n-lt-VARIABLE_END c =
    let f = c.args.front in
    ap (λ m. Ok (record { at = f.at + 5; notes = m })) c.with_variable.ensures
    ∙ variable (mark f.notes) c.args.body.now f.at _ c.in-Some.ensures.lookup.3 _ (omega arith) c.u32_at-n.ensures (omega arith) c.if-n-lt-VARIABLE_END.true

pub returns : goal.returns
returns c =
    let f = c.args.front in
    bad-variable (mark f.notes) c.args.body.now f.at _ c.in-Some.ensures.lookup.3 _ (omega arith) c.u32_at-n.ensures (omega arith) c.if-n-lt-VARIABLE_END.false
