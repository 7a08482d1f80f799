use native.Mathlib.Omega.{arith}
use Rattle.std.proofs.Common.{rules}
use Rattle.spec.proofs.Bytes.Within.{loads-room, part-within}
use Rattle.books.proofs.Entries.{verdict-of}
use Rattle.books.proofs.judge_entry.Goals as goal

-- where the book loads and has an entry,
-- the entry's twelve bytes lie in the contents
pub offset_at-offset-requires : goal.offset_at-offset-requires
offset_at-offset-requires c = search (rules, loads-room)

pub length_at-length-requires : goal.length_at-length-requires
length_at-length-requires c = search (rules, loads-room)

-- its own part ends within the book,
-- and what is said of the bytes there is said of the entry
pub slice_bounds-judge-end : goal.slice_bounds-judge-end
slice_bounds-judge-end c = omega (arith, part-within c.args.book.now c.args.i c.requires.0 c.requires.1)

pub returns : goal.returns
returns c = verdict-of c.args.book.now c.args.i _ _ _ _ _ c.part_of.ensures c.offset_at-offset.ensures.0 c.length_at-length.ensures.0 c.most_at.ensures c.judge.ensures
