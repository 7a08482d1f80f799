use Rattle.std.proofs.Common.{arith}
use Rattle.admission.proofs.Leads.{unfilled-lead, under-0, low, high, behind-fits}
use Rattle.admission.proofs.lead_of.Goals as goal

pub returns-then-stamp-eq0 : goal.returns-then-stamp-eq0
returns-then-stamp-eq0 c =
    let a = c.args in
    unfilled-lead a.need a.stamp (omega arith)

pub returns-then-need-eq0 : goal.returns-then-need-eq0
returns-then-need-eq0 c =
    let a = c.args in
    under-0 a.need a.stamp (omega arith) (λ e. omega arith)

pub returns-then-distance-le-HIGHEST_LEAD : goal.returns-then-distance-le-HIGHEST_LEAD
returns-then-distance-le-HIGHEST_LEAD c =
    let steps = c.steps-distance in
    let a = c.args in
    low a.need a.stamp steps.result (λ e. omega arith) (λ e. omega arith) steps.ensures (omega arith)

pub overflow_sub-result : goal.overflow_sub-result
overflow_sub-result c =
    let steps = c.steps-distance in
    behind-fits steps.result (omega (arith, steps.ensures)) (omega arith)

pub returns : goal.returns
returns c =
    let steps = c.steps-distance in
    let a = c.args in
    high a.need a.stamp steps.result (λ e. omega arith) (λ e. omega arith) steps.ensures (omega (arith, steps.ensures)) (omega arith)
