-- A book that loads has room for the question's stamp.
use Rattle.spec.proofs.Bytes.Within.{entries-some, loads-room}
use Rattle.console.proofs.leads.print_leads.Goals as goal

pub stamp_at-requires : goal.stamp_at-requires
stamp_at-requires g c = loads-room c.args.book.now 1 c.in-Ok.ensures.0 (entries-some c.args.book.now)
