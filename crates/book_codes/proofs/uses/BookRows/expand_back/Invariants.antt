use lib.ListN.{length}
use Rattle.codes.specs.Code.{own_slot}
use Rattle.book_codes.proofs.Spread.{codes_each, widths_each, end_each}
use Rattle.book_codes.proofs.Growing.{GoalsReached, RowsWritten}
use Rattle.book_codes.proofs.Chunks.{Left}
use Rattle.book_codes.proofs.uses.BookRows.expand_back.Given as goal

abbrev pub invariant-loop-row : goal.invariant-loop-row
invariant-loop-row l =
    let r = length l.yielded in
    record {
      left : Left l.self.codes.now l.self.count l.row-iterator r;
      reached : GoalsReached l.self.book.now l.self.codes.now l.self.count r l.at;
      codes : RowsWritten l.self.book.now l.self.codes.now l.self.count (codes_each own_slot) l.initial.out r l.out;
      wide : RowsWritten l.self.book.now l.self.codes.now l.self.count widths_each l.initial.widths r l.widths;
      ends : RowsWritten l.self.book.now l.self.codes.now l.self.count end_each l.initial.lasts r l.lasts;
    }
