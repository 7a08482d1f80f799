use native.Mathlib.Omega.{arith}
use Rattle.checker.proofs.LengthLaws.{summary-there, summary-laid, head-short, head-is}
use Rattle.checker.proofs.head_lengths.head_at.Goals as goal

pub part_of-requires : goal.part_of-requires
part_of-requires c =
    let w = c.requires in
    summary-there w

pub head_count-requires : goal.head_count-requires
head_count-requires c =
    let part_of = c.part_of in
    let w = c.requires in
    summary-laid w part_of.ensures

pub overflow_cast-result : goal.overflow_cast-result
overflow_cast-result c =
    let head-count = c.head_count in
    let part_of = c.part_of in
    let w = c.requires in
    omega (arith, head-short w part_of.ensures head-count.ensures)

pub returns : goal.returns
returns c =
    let head-count = c.head_count in
    let part_of = c.part_of in
    let w = c.requires in
    head-is w part_of.ensures head-count.ensures
