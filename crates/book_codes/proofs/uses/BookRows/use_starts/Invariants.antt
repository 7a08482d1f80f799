use Rattle.std.specs.Iterator.Adapters.{enumerate_source, enumerate_count}
use Rattle.book_codes.proofs.Growing.{GoalsReached}
use Rattle.book_codes.proofs.Beginnings.{Begun}
use Rattle.book_codes.proofs.Chunks.{Left}
use Rattle.book_codes.proofs.uses.BookRows.use_starts.Given as goal

abbrev pub invariant-loop-r : goal.invariant-loop-r
invariant-loop-r l =
    let r = enumerate_count l.r-iterator in
    record {
      left : Left l.self.codes.now l.self.count (enumerate_source l.r-iterator) r;
      reached : GoalsReached l.self.book.now l.self.codes.now l.self.count r l.at;
      begun : Begun l.self.book.now l.self.codes.now l.self.count l.initial.starts r l.starts;
    }
