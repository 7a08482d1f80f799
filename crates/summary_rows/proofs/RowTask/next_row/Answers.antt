use borrow.Author.Rules.{rules}
use mathlib.Core.Path.{◌≡◌}
use Prim.Native.Nat.{suc, ◌-◌}
use native.Mathlib.Omega.{arith}
use Rattle.summary_rows.proofs.NextLaw.{gone-start, gone-more, next-none}
use Rattle.summary_rows.proofs.NextSteps.{row_at, found_at, found-row}
use Rattle.summary_rows.proofs.RowTask.next_row.Goals as goal

pub loop-j-init : goal.loop-j-init
loop-j-init c = gone-start _ _ c.args.self.now.ready _ (search rules)

pub next_place-requires-clause-front_needs : goal.next_place-requires-clause-front_needs
next_place-requires-clause-front_needs c = row_at _ _ c.args.self.now.ready _ c.requires _ (omega arith)

pub row_with-requires : goal.row_with-requires
row_with-requires c =
    let e : suc (c.loop-j.j - 1) ≡ c.loop-j.j = omega arith in
    found_at _ _ c.args.self.now.ready _ c.requires (search rules) _ (omega arith) (rw e c.loop-j.invariant) _ (rw c.from-from.ensures at c.in-Some.ensures)

pub returns-in-Some : goal.returns-in-Some
returns-in-Some c =
    let e : suc (c.loop-j.j - 1) ≡ c.loop-j.j = omega arith in
    found-row _ _ c.args.self.now.ready _ c.requires (search rules) _ (omega arith) (rw e c.loop-j.invariant) _ (rw c.from-from.ensures at c.in-Some.ensures) _ c.row_with.ensures

pub loop-j-preserved : goal.loop-j-preserved
loop-j-preserved c =
    let e : suc (c.loop-j.j - 1) ≡ c.loop-j.j = omega arith in
    gone-more _ _ c.args.self.now.ready _ (search rules) _ (omega arith) (rw e c.loop-j.invariant) (rw c.from-from.ensures at c.in_default.ensures)

pub returns : goal.returns
returns c = next-none _ _ c.args.self.now.ready _ (search rules) (let e : c.loop-j.j ≡ 0 = omega arith in rw e at c.loop-j.invariant)
