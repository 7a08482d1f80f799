use mathlib.Core.Path.{refl}
use native.Mathlib.Omega.{arith}
use borrow.Author.Tests.{tests}
use Rattle.std.proofs.Common.{rules}
use Rattle.std.proofs.lemmas.Iterator.{cases_from_any, YieldsList-from_slice}
use Rattle.contents.proofs.Arities.ArityWalk.{InRange, OutOfRange, out-of-range, in-range}
use Rattle.contents.proofs.relations.right_arities.Goals as goal

pub returns-then-any : goal.returns-then-any
returns-then-any c =
    let part = c.args.part.now in
    let walked = cases_from_any _ _ c.any.result OutOfRange InRange c.any.ensures.ran (YieldsList-from_slice part cc) (λ x q k. search (rules, tests)) (λ x q k. search (rules, tests)) in
    (out-of-range part _ c.if-any.true walked, refl)

pub returns : goal.returns
returns c =
    let part = c.args.part.now in
    let walked = cases_from_any _ _ c.any.result OutOfRange InRange c.any.ensures.ran (YieldsList-from_slice part cc) (λ x q k. search (rules, tests)) (λ x q k. search (rules, tests)) in
    in-range part _ c.if-any.false walked (omega arith) (omega arith)
