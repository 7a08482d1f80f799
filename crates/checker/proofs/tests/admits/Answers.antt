use Rattle.checker.proofs.LengthLaws.{count_room}
use Rattle.checker.proofs.AdmissionLaws.{none_is_zero, none-is-over, is-there, admits-as}
use Rattle.checker.proofs.tests.admits.Goals as goal

pub returns-then-number-eq0 : goal.returns-then-number-eq0
returns-then-number-eq0 c =
    let if1 = c.if-number-eq0 in
    none_is_zero _ _ if1.true

pub count_of-requires : goal.count_of-requires
count_of-requires c =
    let w = c.requires in
    count_room w

pub returns-then-count_of-number : goal.returns-then-count_of-number
returns-then-count_of-number c =
    let if2 = c.if-count_of-number in
    let count_of = c.count_of in
    none-is-over count_of.ensures if2.true

pub is_in-requires : goal.is_in-requires
is_in-requires c =
    let if2 = c.if-count_of-number in
    let count_of = c.count_of in
    let if1 = c.if-number-eq0 in
    let w = c.requires in
    is-there count_of.ensures w if1.false if2.false

pub returns : goal.returns
returns c =
    let is-in = c.is_in in
    let if2 = c.if-count_of-number in
    let count_of = c.count_of in
    let if1 = c.if-number-eq0 in
    let w = c.requires in
    admits-as (is-there count_of.ensures w if1.false if2.false) _ is-in.ensures
