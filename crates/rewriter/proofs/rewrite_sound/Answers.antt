use native.Mathlib.Omega.{arith}
use Rattle.rewriter.proofs.RefusedLaws.{turned_down, sought, rows-listed, rows-over}
use Rattle.rewriter.proofs.rewrite_sound.Goals as goal

pub list_rows-requires : goal.list_rows-requires
list_rows-requires c = sought c.requires (omega arith)

pub rewrite_rows-requires : goal.rewrite_rows-requires
rewrite_rows-requires c = rows-listed c.requires c.list_rows.ensures c.in-Some.is

pub returns-in_default : goal.returns-in_default
returns-in_default c = turned_down (rows-over c.requires c.list_rows.ensures c.in_default.is)
