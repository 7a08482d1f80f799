use mathlib.Core.Path.{◌≡◌}
use lib.ListN.{take}
use lib.Seq.{sets}
use Rattle.answer.specs.Bytes.{codes_bytes}
use Rattle.answer.proofs.rule_bytes.put_terms.Given as goal

-- the terms so far are stored
abbrev pub invariant-loop-i : goal.invariant-loop-i
invariant-loop-i l = l.out ≡ sets l.initial.out l.at (codes_bytes (take l.i l.codes))
