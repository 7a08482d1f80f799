use mathlib.Core.Path.{refl, sym}
use native.Mathlib.Omega.{arith}
use Rattle.std.proofs.lemmas.Result.{err_from_is_err_and}
use Rattle.std.specs.Prelude.{Ok, Err}
use Rattle.spec.proofs.Bytes.Within.{entries-are}
use Rattle.contents.proofs.Records.Filling.{entry-long, front, filled-all}
use Rattle.spec.specs.declared.Refused.TheVariants.{Room}
use Rattle.contents.proofs.Records.Judged.{too_small, passed_on}
use Rattle.contents.proofs.table.load_table.Goals as goal

pub returns-then-table-lt-TABLE_ROOM : goal.returns-then-table-lt-TABLE_ROOM
returns-then-table-lt-TABLE_ROOM c = record { judged = too_small c.args.book.now Room refl c.if-table-lt-TABLE_ROOM.true; table = refl }

pub returns-in_err-n : goal.returns-in_err-n
returns-in_err-n c =
    let p = err_from_is_err_and c.from_residual.result c.from_residual.ensures.1 in
    rw (p.1, p.2) (record { judged = passed_on c.args.book.now (Err _) c.if-table-lt-TABLE_ROOM.false c.in_err-n.ensures; table = refl })

pub slice_bounds-record-items-end : goal.slice_bounds-record-items-end
slice_bounds-record-items-end c = let few = c.in_ok-n.ensures.0.few in let counted = c.in_ok-n.ensures.1 in omega (arith, entries-are c.in_ok-n.n)

pub slice_bounds-record-items-end-2 : goal.slice_bounds-record-items-end-2
slice_bounds-record-items-end-2 c =
    let loaded = c.in_ok-n.ensures in
    sym (front c.args.book.now _ _ c.args.table.now loaded.0 loaded.1 c.entries_of-many.ensures c.if-table-lt-TABLE_ROOM.false)

pub record_at-requires : goal.record_at-requires
record_at-requires c =
    let loaded = c.in_ok-n.ensures in
    let long = front c.args.book.now _ _ c.args.table.now loaded.0 loaded.1 c.entries_of-many.ensures c.if-table-lt-TABLE_ROOM.false in
    entry-long c.args.book.now c.in_ok-n.n c.entries_of-many.result c.loop-i.i loaded.0 loaded.1 c.entries_of-many.ensures (omega (arith, long))

pub returns : goal.returns
returns c =
    let loaded = c.in_ok-n.ensures in
    let long = front c.args.book.now _ _ c.args.table.now loaded.0 loaded.1 c.entries_of-many.ensures c.if-table-lt-TABLE_ROOM.false in
    record {
      judged = passed_on c.args.book.now (Ok _) c.if-table-lt-TABLE_ROOM.false loaded;
      table = filled-all c.args.book.now c.in_ok-n.n _ c.args.table.now c.loop-i.record-items c.entries_of-many.ensures (omega (arith, long)) (λ k d l. c.loop-i.invariant k d (omega (arith, long)));
    }
