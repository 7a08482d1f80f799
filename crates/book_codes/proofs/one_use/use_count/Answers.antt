use Rattle.book_codes.proofs.RowUse.{laid, one-count}
use Rattle.book_codes.proofs.one_use.use_count.Goals as goal

pub goal_count-requires : goal.goal_count-requires
goal_count-requires c = laid c.requires c.row_parts.ensures.summary c.row_parts.ensures.relations

pub returns : goal.returns
returns c = one-count c.requires c.row_parts.ensures.summary c.row_parts.ensures.relations c.goal_count.ensures
