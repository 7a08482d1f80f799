use Rattle.book_codes.proofs.Laid.{question-part, laid}
use Rattle.checker.proofs.LayoutLaws.{laid-some}
use Rattle.checker.proofs.RowLaws.{none-laid, none-headed, rows-given, rows-rule}
use Rattle.checker.proofs.proposal.propose_over.Goals as goal

pub returns-then-not-is_laid_out : goal.returns-then-not-is_laid_out
returns-then-not-is_laid_out c =
    let is-laid-out = c.is_laid_out in
    let w = c.requires in
    none-laid w.1 is-laid-out.ensures c.if-not-is_laid_out.true

pub part_of-requires : goal.part_of-requires
part_of-requires c =
    let w = c.requires in
    question-part w.0

pub same_heads-requires : goal.same_heads-requires
same_heads-requires c =
    let part_of = c.part_of in
    let is-laid-out = c.is_laid_out in
    let w = c.requires in
    (laid-some is-laid-out.ensures c.if-not-is_laid_out.false, laid w.0 part_of.ensures)

pub returns-then-not-same_heads : goal.returns-then-not-same_heads
returns-then-not-same_heads c =
    let same-heads = c.same_heads in
    let part_of = c.part_of in
    let w = c.requires in
    none-headed w.1 part_of.ensures same-heads.ensures c.if-not-same_heads.true

pub read_rows-requires : goal.read_rows-requires
read_rows-requires c =
    let same-heads = c.same_heads in
    let part_of = c.part_of in
    let is-laid-out = c.is_laid_out in
    let w = c.requires in
    rows-given w.1 part_of.ensures same-heads.ensures w.0 is-laid-out.ensures c.if-not-is_laid_out.false c.if-not-same_heads.false

pub invariant_of-body : goal.invariant_of-body
invariant_of-body c =
    let same-heads = c.same_heads in
    let part_of = c.part_of in
    let is-laid-out = c.is_laid_out in
    let w = c.requires in
    record { laid = rows-rule (rows-given w.1 part_of.ensures same-heads.ensures w.0 is-laid-out.ensures c.if-not-is_laid_out.false c.if-not-same_heads.false) }
