use Prim.Native.Nat.{ℕ, ◌+◌, ◌*◌, ◌≤◌}
use mathlib.Core.List.{List}
use native.Mathlib.Omega.{arith}
use lib.ListN.{length}
use Rattle.spec.specs.Contents.{NoGaps}
use Rattle.spec.proofs.Bytes.Within.{entry-room, body-within, part-lent, entries-some}
use Rattle.contents.proofs.Arities.Answers.{relations-say}
use Rattle.contents.proofs.relations.right_relations.Goals as goal

-- Entry 0 is there.
room : (book : List ℕ) → NoGaps book → 14 + 12 * 0 ≤ length book
room book w = entry-room book 0 w.room (omega (arith, entries-some book))

pub slice_bounds-right_arities-end : goal.slice_bounds-right_arities-end
slice_bounds-right_arities-end c =
    omega (arith, body-within c.args.book.now 0 c.requires (omega (arith, entries-some c.args.book.now)))

pub stamp_at-requires : goal.stamp_at-requires
stamp_at-requires c = room c.args.book.now c.requires

pub offset_at-offset-requires : goal.offset_at-offset-requires
offset_at-offset-requires c = room c.args.book.now c.requires

pub length_at-requires : goal.length_at-requires
length_at-requires c = room c.args.book.now c.requires

pub returns : goal.returns
returns c =
    let book = c.args.book.now in
    relations-say book _ _ c.right_arities.result (omega arith) (part-lent book 0 _ _ c.offset_at-offset.ensures.0 c.length_at.ensures.0) c.right_arities.ensures
