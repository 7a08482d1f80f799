use mathlib.Core.Path.{◌≡◌}
use lib.ListN.{take}
use Rattle.spec.specs.Given.{at_front}
use Rattle.row_list.specs.Alone.{alone_codes}
use Rattle.row_list.proofs.tasks.put_alone.Given as goal

abbrev pub invariant-loop-k : goal.invariant-loop-k
invariant-loop-k l = l.out ≡ at_front (alone_codes (take l.k l.codes)) l.initial.out
