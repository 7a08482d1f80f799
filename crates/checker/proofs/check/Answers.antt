use Rattle.checker.proofs.Yes.{read-sound, read-refused}
use Rattle.checker.proofs.check.Goals as goal

pub check_sound-requires : goal.check_sound-requires
check_sound-requires c =
    let read-book = c.read_book in
    read-sound read-book.ensures c.in-Ok.is

pub returns-in-Err : goal.returns-in-Err
returns-in-Err c =
    let read-book = c.read_book in
    read-refused read-book.ensures c.in-Err.is
