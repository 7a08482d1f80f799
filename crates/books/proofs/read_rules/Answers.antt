use mathlib.Core.Path.{subst, sym}
use native.Mathlib.Omega.{arith}
use Rattle.spec.specs.Refusals.{Refusal}
use Rattle.spec.proofs.Bytes.Within.{entries-counted}
use Rattle.books.proofs.Entries.{Judgement, entry-refused, all_sound}
use Rattle.books.proofs.read_rules.Goals as goal

-- the code's count of entries is the book's
pub judge_entry-verdict-requires : goal.judge_entry-verdict-requires
judge_entry-verdict-requires c =
    let e = entries-counted c.args.book.now _ _ c.requires.1 c.entries_of-all.ensures in
    (c.requires.0, omega arith)

pub returns-in_default : goal.returns-in_default
returns-in_default c =
    let book = c.args.book.now in
    let e = entries-counted book _ _ c.requires.1 c.entries_of-all.ensures in
    let l = c.loop-i in
    subst (Refusal book) (sym c.refusal_of.ensures)
    (entry-refused book l.i (record { loads = c.requires.0; rule = l.auto.i; within = omega arith; before = l.invariant }) c.unwrap_err.result (subst (Judgement book l.i) c.unwrap_err.ensures c.judge_entry-verdict.ensures))

pub returns : goal.returns
returns c =
    let book = c.args.book.now in
    let e = entries-counted book _ _ c.requires.1 c.entries_of-all.ensures in
    all_sound book _ (λ i. omega (arith, c.type_inv.book i)) c.requires.0 (omega arith) c.loop-i.invariant
