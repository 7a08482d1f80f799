use mathlib.Core.Path.{◌≡◌}
use lib.ListN.{take}
use lib.Seq.{sets}
use Rattle.answer.specs.Picked.{picked_codes, picked_widths}
use Rattle.answer.proofs.picked.pick.Given as goal

-- the rows so far are picked
abbrev pub invariant-loop-i : goal.invariant-loop-i
invariant-loop-i l = record {
  codes : l.out ≡ sets l.initial.out 0 (picked_codes l.codes (take l.i l.rows));
  widths : l.widths ≡ sets l.initial.widths 0 (picked_widths l.codes (take l.i l.rows));
}
