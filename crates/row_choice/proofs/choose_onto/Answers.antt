use Rattle.first_shortest.proofs.Tests.{posed-few}
use Rattle.row_choice.proofs.AskedLaws.{asked-given, asked-few}
use Rattle.row_choice.proofs.ChooseSteps.{choose-posed, rows-chosen}
use Rattle.row_choice.proofs.choose_onto.Goals as goal

pub dominance-dominators-requires : goal.dominance-dominators-requires
dominance-dominators-requires c = let w = c.requires in (asked-given w.0, asked-few w.0, w.1)

pub invariant_of-task : goal.invariant_of-task
invariant_of-task c =
    let w = c.requires in
    record { sized = posed-few (choose-posed w.0 c.question_source-k.ensures w.1 w.2 c.question_bindings-bound.ensures c.dominance-dominators.ensures).task }

pub invariant_of-choose : goal.invariant_of-choose
invariant_of-choose c =
    let w = c.requires in
    record { few = asked-few w.0; posed = ∣ choose-posed w.0 c.question_source-k.ensures w.1 w.2 c.question_bindings-bound.ensures c.dominance-dominators.ensures ∣₁ }

pub returns : goal.returns
returns c =
    let w = c.requires in
    rows-chosen w.0 c.question_source-k.ensures w.1 w.2 c.question_bindings-bound.ensures c.dominance-dominators.ensures c.choose.ensures
