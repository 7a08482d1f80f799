use mathlib.Core.Path.{sym}
use native.Mathlib.Omega.{arith}
use lib.Seq.{length-take-le}
use Rattle.first_shortest.proofs.Uses.{uses-sized}
use Rattle.row_choice.proofs.PairSteps.{pair-goals, pair-targets, pair-uses, pair-tells, source-some, pair-apart}
use Rattle.row_choice.proofs.dominators.goes_into.Goals as goal

pub bounds-source-0 : goal.bounds-source-0
bounds-source-0 c = omega (arith, source-some c.requires.is)

pub returns-then-not-has_relation : goal.returns-then-not-has_relation
returns-then-not-has_relation c = pair-apart c.if-not-has_relation.ensures

pub slice_bounds-lasts-end : goal.slice_bounds-lasts-end
slice_bounds-lasts-end c = pair-goals c.requires

pub slice_bounds-own-end : goal.slice_bounds-own-end
slice_bounds-own-end c = pair-targets c.requires

pub slice_bounds-dominates-end : goal.slice_bounds-dominates-end
slice_bounds-dominates-end c = sym (length-take-le _ _ (pair-goals c.requires))

pub slice_bounds-dominates-end-2 : goal.slice_bounds-dominates-end-2
slice_bounds-dominates-end-2 c = sym (length-take-le _ _ (pair-targets c.requires))

pub invariant_of-dominates : goal.invariant_of-dominates
invariant_of-dominates c = record { sized = uses-sized (pair-uses c.requires) }

pub dominates-requires : goal.dominates-requires
dominates-requires c = pair-uses c.requires

pub returns : goal.returns
returns c = pair-tells c.dominates.ensures
