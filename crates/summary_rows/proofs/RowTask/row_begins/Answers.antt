use borrow.Author.Rules.{rules}
use Rattle.summary_rows.proofs.BeginLaw.{begins}
use Rattle.summary_rows.proofs.RowTask.row_begins.Goals as goal

pub returns : goal.returns
returns c = rw c.is_some.ensures (begins _ _ c.args.self.now.ready _ _ (search rules) c.requires _ (rw c.fixed.ensures at c.places_from.ensures))
