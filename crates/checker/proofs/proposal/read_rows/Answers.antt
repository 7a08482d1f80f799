use native.Mathlib.Omega.{arith}
use Rattle.checker.proofs.RowLaws.{rows-goals, codes-there, rows-proposed, rows-refused}
use Rattle.checker.proofs.proposal.read_rows.Goals as goal

pub term_codes-count-requires : goal.term_codes-count-requires
term_codes-count-requires c =
    let w = c.requires in
    (omega (arith, rows-goals w), omega (arith, rows-goals w))

pub all_admitted-requires : goal.all_admitted-requires
all_admitted-requires c =
    let term-codes = c.term_codes-count in
    let w = c.requires in
    (w.sound, codes-there w term-codes.ensures.0)

pub returns-then-all_admitted : goal.returns-then-all_admitted
returns-then-all_admitted c =
    let if1 = c.if-all_admitted in
    let all-admitted = c.all_admitted in
    let term-codes = c.term_codes-count in
    let w = c.requires in
    rows-proposed w term-codes.ensures.0 all-admitted.ensures if1.true

pub returns : goal.returns
returns c =
    let if1 = c.if-all_admitted in
    let all-admitted = c.all_admitted in
    let term-codes = c.term_codes-count in
    let w = c.requires in
    rows-refused w term-codes.ensures.0 all-admitted.ensures if1.false
