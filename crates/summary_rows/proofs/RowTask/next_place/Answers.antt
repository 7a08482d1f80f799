use borrow.Author.Rules.{rules}
use mathlib.Core.Path.{refl}
use Rattle.summary_rows.proofs.PlaceLaw.{passed-not, on-more, place_found, place_none}
use Rattle.summary_rows.proofs.RowTask.next_place.Goals as goal

pub row_begins-requires : goal.row_begins-requires
row_begins-requires c = on-more _ _ c.args.self.now.ready _ _ (search rules) c.requires.front_needs c.requires.j_lt_head c.args.from _ c.loop-k-test.true (c.if-not-is_related.ensures.0 refl)

pub returns-then-row_begins : goal.returns-then-row_begins
returns-then-row_begins c = place_found _ _ c.args.self.now.ready _ _ (search rules) c.requires.front_needs c.requires.j_lt_head _ _ c.loop-k.invariant (rw c.if-row_begins.true at c.row_begins.ensures)

pub loop-k-preserved : goal.loop-k-preserved
loop-k-preserved c = passed-not _ _ c.args.self.now.ready _ _ (search rules) c.requires.front_needs c.requires.j_lt_head _ _ c.loop-k.invariant (rw c.if-row_begins.false at c.row_begins.ensures)

pub returns : goal.returns
returns c = place_none _ _ c.args.self.now.ready _ _ (search rules) c.requires.front_needs c.requires.j_lt_head _ _ c.loop-k-test.false c.loop-k.invariant
