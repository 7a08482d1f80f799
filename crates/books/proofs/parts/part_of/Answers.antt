use native.Mathlib.Omega.{arith}
use Rattle.std.proofs.Common.{rules}
use Rattle.spec.proofs.Bytes.Within.{loads-room, part-within, part-lent}
use Rattle.books.proofs.parts.part_of.Goals as goal

pub offset_at-offset-requires : goal.offset_at-offset-requires
offset_at-offset-requires c = search (rules, loads-room)

pub length_at-requires : goal.length_at-requires
length_at-requires c = search (rules, loads-room)

pub slice_bounds-result-end : goal.slice_bounds-result-end
slice_bounds-result-end c = omega (arith, part-within c.args.book.now c.args.i c.requires.0 c.requires.1)

pub returns : goal.returns
returns c = part-lent c.args.book.now c.args.i _ _ c.offset_at-offset.ensures.0 c.length_at.ensures.0
