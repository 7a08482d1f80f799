use Prim.Native.Nat.{◌≤◌}
use Rattle.checker.proofs.AdmissionLaws.{AdmittedTo}
use Rattle.checker.proofs.tests.all_admitted.Given as goal

abbrev pub invariant-loop-i : goal.invariant-loop-i
invariant-loop-i l =
    let book = l.book in
    let codes = l.codes in
    let count = l.count in
    let i = l.i in
    (i ≤ count) × AdmittedTo book codes i
