use mathlib.Core.Path.{refl}
use native.Mathlib.Omega.{arith}
use Rattle.spec.proofs.Bytes.Within.{entries-counted, loads-room, part-within, part-lent}
use Rattle.spec.proofs.Bytes.FirstFaults.{loads-unrefused}
use Rattle.contents.proofs.entry.Goals as goal

-- The book is turned down: the empty part.
pub returns-in_default : goal.returns-in_default
returns-in_default c =
    record {
      own = λ l h. let why = c.in_default.ensures in absurd (loads-unrefused c.args.book.now l why.0 why.1);
      none = λ f. record { block = refl; place = omega arith; holds = refl };
    }

pub entries_of-requires : goal.entries_of-requires
entries_of-requires c =
    let loaded = c.in-Ok.ensures in
    omega (arith, loaded.0.few, loaded.1)

-- An entry above the last: the empty part.
pub returns-then-entries_of-i : goal.returns-then-entries_of-i
returns-then-entries_of-i c =
    let loaded = c.in-Ok.ensures in
    record {
      own = λ l h. absurd (omega (arith, entries-counted c.args.book.now _ _ loaded.1 c.entries_of.ensures));
      none = λ f. record { block = refl; place = omega arith; holds = refl };
    }

pub offset_at-offset-requires : goal.offset_at-offset-requires
offset_at-offset-requires c =
    let loaded = c.in-Ok.ensures in
    loads-room c.args.book.now c.args.i loaded.0 (omega (arith, entries-counted c.args.book.now _ _ loaded.1 c.entries_of.ensures))

pub length_at-requires : goal.length_at-requires
length_at-requires c =
    let loaded = c.in-Ok.ensures in
    loads-room c.args.book.now c.args.i loaded.0 (omega (arith, entries-counted c.args.book.now _ _ loaded.1 c.entries_of.ensures))

pub slice_bounds-result-end-2 : goal.slice_bounds-result-end-2
slice_bounds-result-end-2 c =
    let loaded = c.in-Ok.ensures in
    omega (arith, part-within c.args.book.now c.args.i loaded.0 (omega (arith, entries-counted c.args.book.now _ _ loaded.1 c.entries_of.ensures)))

pub returns : goal.returns
returns c =
    let loaded = c.in-Ok.ensures in
    record {
      own = λ l h. record { block = refl; place = omega arith; holds = part-lent c.args.book.now c.args.i _ _ c.offset_at-offset.ensures.0 c.length_at.ensures.0 };
      none = λ f. absurd (f loaded.0 (omega (arith, entries-counted c.args.book.now _ _ loaded.1 c.entries_of.ensures)));
    }
