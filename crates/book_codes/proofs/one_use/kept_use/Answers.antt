use native.Mathlib.Omega.{arith}
use Rattle.book_codes.proofs.RowUse.{summary-goals, use-over, one-use, one-widths}
use Rattle.book_codes.proofs.one_use.kept_use.Goals as goal

pub body_widths-requires : goal.body_widths-requires
body_widths-requires c = let p = c.row_parts-parts.ensures in omega (arith, summary-goals c.requires.0 p.summary p.relations)

pub kept_slots-requires : goal.kept_slots-requires
kept_slots-requires c = let p = c.row_parts-parts.ensures in (use-over c.requires.0 p.summary p.relations p.terms, omega (arith, summary-goals c.requires.0 p.summary p.relations))

pub returns : goal.returns
returns c =
    let p = c.row_parts-parts.ensures in
    (λ u. one-use c.requires.0 p.summary p.relations p.terms (c.kept_slots.ensures u), one-widths c.requires.0 p.summary p.relations c.body_widths.ensures)
