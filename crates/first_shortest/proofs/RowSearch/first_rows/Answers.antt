use native.Mathlib.Omega.{arith}
use Rattle.first_shortest.proofs.Steps.{underway-start, underway-tried, chooses-found}
use Rattle.first_shortest.proofs.RowSearch.first_rows.Goals as goal
use Rattle.first_shortest.proofs.RowSearch.first_rows.Goals.{else-loop-row-test, then-loop-row-test+then-pass-eq0}

pub loop-row-init : goal.loop-row-init
loop-row-init c = rw c.start-pass.ensures (underway-start c.requires)

pub loop-row-preserved : goal.loop-row-preserved
loop-row-preserved c = underway-tried c.loop-row.invariant c.loop-row-test.true (omega arith) c.one_row-pass.ensures

pub returns : goal.returns
returns c = elim c.loop-row-test.branch [
  | else-loop-row-test w ↦ chooses-found c.loop-row.invariant (λ some. omega arith)
  | then-loop-row-test+then-pass-eq0 w ↦ chooses-found c.loop-row.invariant (λ some. omega arith)
]
