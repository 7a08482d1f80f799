use mathlib.Core.Path.{sym}
use native.Mathlib.Omega.{arith}
use Rattle.checker.proofs.LengthLaws.{count_room, count-few, lent-long, heads-are}
use Rattle.checker.proofs.proposal.propose.Goals as goal

pub count_of-n-requires : goal.count_of-n-requires
count_of-n-requires c =
    let w = c.requires in
    count_room w

pub overflow_add-table : goal.overflow_add-table
overflow_add-table c =
    let count_of = c.count_of-n in
    let w = c.requires in
    omega (arith, count-few w count_of.ensures)

pub slice_bounds-table-end : goal.slice_bounds-table-end
slice_bounds-table-end c =
    let count_of = c.count_of-n in
    let w = c.requires in
    omega (arith, count-few w count_of.ensures)

pub slice_bounds-propose_over-end : goal.slice_bounds-propose_over-end
slice_bounds-propose_over-end c =
    let count_of = c.count_of-n in
    let head-lengths = c.head_lengths-table in
    let w = c.requires in
    sym (lent-long w count_of.ensures head-lengths.result (omega arith))

pub propose_over-requires : goal.propose_over-requires
propose_over-requires c =
    let count_of = c.count_of-n in
    let head-lengths = c.head_lengths-table in
    let w = c.requires in
    (w, heads-are w count_of.ensures head-lengths.result (omega arith) head-lengths.ensures)
