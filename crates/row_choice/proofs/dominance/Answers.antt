use native.Mathlib.Omega.{arith}
use Rattle.row_choice.proofs.TableSteps.{rows-onto, filled-goes}
use Rattle.row_choice.proofs.dominance.Goals as goal

pub dominators-requires : goal.dominators-requires
dominators-requires c = let p = c.requires in (p.0, p.1, c.loop-r-test.true, rows-onto p.2 c.use_starts.ensures)

pub loop-r-preserved : goal.loop-r-preserved
loop-r-preserved c = filled-goes (omega arith) c.dominators.ensures c.loop-r.invariant
