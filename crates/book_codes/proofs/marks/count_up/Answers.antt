use mathlib.Core.Path.{ap, ◌∙◌}
use native.Mathlib.Omega.{arith}
use Rattle.spec.proofs.Lists.Counted.{counted}
use Rattle.book_codes.proofs.Stored.{counted-up}
use Rattle.book_codes.proofs.marks.count_up.Goals as goal

pub returns : goal.returns
returns c =
    let l = c.loop-k.auto.places in
    let over = c.loop-k-test.false in
    counted-up c.loop-k.places (λ k h. c.loop-k.invariant k (omega arith)) ∙ ap (counted 0) l
