use Rattle.std.proofs.lemmas.Result.{err_from_is_err_and}
use Rattle.rewriter.proofs.RefusedLaws.{turned_down, not-read, answer-short, witness-short}
use Rattle.rewriter.proofs.rewrite.Goals as goal

pub returns-then-answer-lt-ANSWER_ROOM : goal.returns-then-answer-lt-ANSWER_ROOM
returns-then-answer-lt-ANSWER_ROOM c = turned_down (answer-short c.if-answer-lt-ANSWER_ROOM.true)

pub returns-then-witness-lt-WITNESS_ROOM : goal.returns-then-witness-lt-WITNESS_ROOM
returns-then-witness-lt-WITNESS_ROOM c = turned_down (witness-short c.if-witness-lt-WITNESS_ROOM.true)

pub returns-in_err-read_book : goal.returns-in_err-read_book
returns-in_err-read_book c =
    let p = err_from_is_err_and c.from_residual.result c.from_residual.ensures.1 in
    rw (p.1, p.2) (turned_down (not-read c.if-answer-lt-ANSWER_ROOM.false c.if-witness-lt-WITNESS_ROOM.false c.in_err-read_book.ensures))
