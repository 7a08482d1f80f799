use Rattle.std.specs.Iterator.Adapters.{enumerate_source, enumerate_count}
use Rattle.codes.specs.Code.{own_code}
use Rattle.book_codes.proofs.Spread.{codes_each, own_each, inside_each}
use Rattle.book_codes.proofs.Growing.{GoalsReached, RowsWritten}
use Rattle.book_codes.proofs.Chunks.{Left}
use Rattle.book_codes.proofs.uses.BookRows.expand.Given as goal

abbrev pub invariant-loop-r : goal.invariant-loop-r
invariant-loop-r l =
    let r = enumerate_count l.r-iterator in
    record {
      left : Left l.self.codes.now l.self.count (enumerate_source l.r-iterator) r;
      reached : GoalsReached l.self.book.now l.self.codes.now l.self.count r l.at;
      codes : RowsWritten l.self.book.now l.self.codes.now l.self.count (codes_each own_code) l.initial.out r l.out;
      owns : RowsWritten l.self.book.now l.self.codes.now l.self.count own_each l.initial.own r l.own;
      inners : RowsWritten l.self.book.now l.self.codes.now l.self.count inside_each l.initial.inner r l.inner;
    }
