use mathlib.Core.Path.{refl}
use mathlib.Core.Logic.{⊎_elim}
use native.Mathlib.Omega.{arith}
use Rattle.spec.specs.Refusals.{four, five}
use Rattle.spec.specs.declared.Refused.TheVariants.{Size, Count, Contents, Relations}
use Rattle.contents.proofs.Entries.Answers.{passed, faulty}
use Rattle.contents.proofs.Sizes.{told, too_short, too_long, right-size, too_many, few-counted, few-said}
use Rattle.contents.proofs.load.Goals as goal

pub returns-then-size-lt2 : goal.returns-then-size-lt2
returns-then-size-lt2 c =
    let book = c.args.book.now in
    told book Size refl (⊎_elim (too_short book) (λ h. too_long book h.1) c.then-size-lt2.either)

pub returns-then-n-gt-MOST_SUMMARIES : goal.returns-then-n-gt-MOST_SUMMARIES
returns-then-n-gt-MOST_SUMMARIES c =
    let book = c.args.book.now in
    told book Count refl (too_many book _ (right-size book (omega arith) (omega arith)) c.count_of-n.ensures (omega arith))

pub returns-in_default : goal.returns-in_default
returns-in_default c =
    let book = c.args.book.now in
    told book Contents refl (four (right-size book (omega arith) (omega arith)) (few-counted book _ c.count_of-n.ensures (omega arith)) (faulty _ _ _ _ _ c.in_default.is c.no_gaps.ensures))

pub right_relations-requires : goal.right_relations-requires
right_relations-requires c = passed _ _ _ _ c.in-Ok.is c.no_gaps.ensures

pub returns-in_default-right_relations : goal.returns-in_default-right_relations
returns-in_default-right_relations c =
    let book = c.args.book.now in
    let gapless = passed _ _ _ _ c.in-Ok.is c.no_gaps.ensures in
    told book Relations refl
    (five (right-size book (omega arith) (omega arith)) (few-counted book _ c.count_of-n.ensures (omega arith)) gapless
    (faulty _ _ _ _ _ c.in_default-right_relations.is c.right_relations.ensures))

pub returns : goal.returns
returns c =
    let book = c.args.book.now in (
      record {
        size = right-size book (omega arith) (omega arith);
        few = few-said book _ c.count_of-n.ensures (omega arith);
        no_gaps = passed _ _ _ _ c.in-Ok.is c.no_gaps.ensures;
        relations = passed _ _ _ _ c.in-Ok-right_relations.is c.right_relations.ensures;
      },
      c.count_of-n.ensures,
    )
