use Rattle.rewriter.proofs.RefusedLaws.{turned_down, chosen-put, none-do}
use Rattle.rewriter.proofs.rewrite_rows.Goals as goal

pub put_chosen-requires : goal.put_chosen-requires
put_chosen-requires c = chosen-put c.requires c.choose_rows.ensures c.in-Some.is

pub returns-in_default : goal.returns-in_default
returns-in_default c = turned_down (none-do c.requires c.choose_rows.ensures c.in_default.is)
