use Rattle.std.proofs.Common.{arith}
use Rattle.console.proofs.Books.{within-room}
use Rattle.console.proofs.input.next_book.Goals as goal

pub returns : goal.returns
returns g c e =
    let came = c.in_ok-n.ensures in
    let room = c.fill.auto.room in (
      _,
      _,
      _,
      record {
        size = c.in-Some.size;
        behind = _;
        after = _;
        sized = (rw c.in-Some.is at c.in_ok-size.ensures);
        came = came.came;
        fits = omega (arith, came.front.1, came.wanted, c.from-size.ensures);
        room = within-room _ (omega (arith, came.front.0, came.front.1, room));
      },
      c.in_ok-print.ensures,
    )
