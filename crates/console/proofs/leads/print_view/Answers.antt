-- A book that loads has room for the stamps of the question and of each of its summaries.
use Rattle.std.proofs.Common.{◌+◌, refl, sym, arith}
use Rattle.spec.specs.Contents.{count}
use Rattle.spec.proofs.Bytes.Within.{entries-are, entries-counted, entries-some, loads-room}
use Rattle.console.proofs.leads.print_view.Goals as goal

pub stamp_at-requires : goal.stamp_at-requires
stamp_at-requires g c = loads-room c.args.book.now 1 c.requires.0 (entries-some c.args.book.now)

pub stamp_at-requires-2 : goal.stamp_at-requires-2
stamp_at-requires-2 g c =
    let book = c.args.book.now in
    let entries = entries-counted book (count book) (count book + 2) refl (sym (entries-are (count book))) in
    loads-room book (c.args.summary + 1) c.requires.0 (omega (arith, entries, c.requires.1))
