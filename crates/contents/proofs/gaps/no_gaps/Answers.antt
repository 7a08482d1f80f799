use mathlib.Core.Path.{◌≡◌, refl}
use native.Mathlib.Omega.{arith}
use Rattle.spec.specs.BookLayout.{entries}
use Rattle.spec.specs.Contents.{offset_at}
use Rattle.contents.proofs.Entries.EntryWalk.{followed-none, followed-more, begin-more, start, cut, gap, no_end, whole}
use Rattle.contents.proofs.gaps.no_gaps.Goals as goal

pub overflow_mul-begin : goal.overflow_mul-begin
unfolding entries
overflow_mul-begin c = omega arith

pub overflow_add-begin : goal.overflow_add-begin
unfolding entries
overflow_add-begin c = omega arith

pub returns-then-book-begin : goal.returns-then-book-begin
returns-then-book-begin c = (cut c.args.book.now c.args.n _ c.requires.0 c.entries_of-entries.ensures (omega arith), refl)

pub loop-i-init : goal.loop-i-init
unfolding entries
loop-i-init c =
    record { here = start c.args.book.now c.args.n _ c.requires.0 c.entries_of-entries.ensures; fits = omega arith; passed = followed-none _ }

pub returns-then-offset_at-begin : goal.returns-then-offset_at-begin
returns-then-offset_at-begin c =
    (gap c.args.book.now c.args.n _ c.requires.0 c.entries_of-entries.ensures c.loop-i.i c.loop-i.begin (omega arith) c.loop-i.invariant.here (λ e. omega arith), refl)

pub loop-i-preserved : goal.loop-i-preserved
loop-i-preserved c =
    let here : offset_at c.args.book.now c.loop-i.i ≡ c.loop-i.begin = omega arith in
    record {
      here = begin-more c.args.book.now c.loop-i.i c.loop-i.begin _ here c.length_at-begin.ensures.0;
      fits = omega arith;
      passed = followed-more c.args.book.now c.loop-i.i c.loop-i.begin c.loop-i.invariant.passed c.loop-i.invariant.here here;
    }

pub returns-then-begin-book : goal.returns-then-begin-book
returns-then-begin-book c =
    (no_end c.args.book.now c.args.n _ c.requires.0 c.entries_of-entries.ensures c.loop-i.i c.loop-i.begin (omega arith) (omega arith) c.loop-i.invariant.here (λ e. omega arith), refl)

pub returns : goal.returns
returns c =
    whole c.args.book.now c.args.n _ c.requires.0 c.entries_of-entries.ensures c.loop-i.i c.loop-i.begin (omega arith) (omega arith) (omega arith) c.loop-i.invariant.passed c.loop-i.invariant.here (omega arith)
