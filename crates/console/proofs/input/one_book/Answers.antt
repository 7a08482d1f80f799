use Rattle.std.proofs.Common.{arith, refl}
use Rattle.console.proofs.Books.{within-room, on-ok}
use Rattle.console.proofs.input.one_book.Goals as goal

pub returns : goal.returns
returns g c =
    let came = c.in_ok-n.ensures in
    let room = c.fill.auto.room in
    on-ok c.print.result (_, within-room _ (omega (arith, came.front.0, came.front.1, room)), came.came, (_, c.print.ensures, refl))
