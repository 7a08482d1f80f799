use mathlib.Core.Path.{◌≡◌}
use Prim.Native.Nat.{◌≤◌, ◌+◌, ◌*◌}
use lib.ListN.{length, take}
use lib.Seq.{sets}
use Rattle.answer.specs.Bytes.{rows_bytes}
use Rattle.answer.proofs.RowWalk.{RowsAhead}
use Rattle.answer.proofs.rule_bytes.put_rows.Given as goal

-- the rows so far are stored, and the place behind them is known
abbrev pub invariant-loop-row : goal.invariant-loop-row
invariant-loop-row l =
    let r = length l.yielded in
    record {
      ahead : RowsAhead l.codes l.widths l.row-iterator r;
      place : l.end ≡ l.at + length (rows_bytes l.codes (take r l.widths));
      few : l.end ≤ l.at + 41 * r;
      stored : l.out ≡ sets l.initial.out l.at (rows_bytes l.codes (take r l.widths));
    }
