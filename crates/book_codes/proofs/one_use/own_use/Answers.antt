use native.Mathlib.Omega.{arith}
use Rattle.book_codes.proofs.RowUse.{summary-goals, use-over, one-use}
use Rattle.book_codes.proofs.one_use.own_use.Goals as goal

pub own_codes-requires : goal.own_codes-requires
own_codes-requires c = let p = c.row_parts-parts.ensures in (use-over c.requires.0 p.summary p.relations p.terms, omega (arith, summary-goals c.requires.0 p.summary p.relations), c.requires.1)

pub returns : goal.returns
returns c = let p = c.row_parts-parts.ensures in one-use c.requires.0 p.summary p.relations p.terms c.own_codes.ensures
