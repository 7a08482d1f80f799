use mathlib.Core.Path.{◌∙◌}
use Rattle.rules.proofs.GoalSteps.{goal-end, goal-unknown, goal-terms}
use Rattle.rules.proofs.subgoals.read_subgoal.Goals as goal

pub returns-in_default : goal.returns-in_default
returns-in_default c = let a = c.args in goal-end a.front.notes a.relations.now a.body.now a.front.at c.in_default.ensures.lookup.3

pub returns-in_default-get : goal.returns-in_default-get
returns-in_default-get c =
    let a = c.args in
    let here = c.in-Some.ensures.lookup.3 in
    goal-unknown a.front.notes a.relations.now a.body.now a.front.at here.0 _ (c.from.ensures ∙ here.1 0) c.in_default-get.ensures.lookup.3

pub returns : goal.returns
returns c =
    let a = c.args in
    let here = c.in-Some.ensures.lookup.3 in
    let known = c.in-Some-get.ensures.lookup.3 in
    goal-terms a.front.notes a.relations.now a.body.now a.front.at here.0 _ (c.from.ensures ∙ here.1 0) known.0 _ (c.from-2.ensures ∙ known.1 0) _ c.read_terms.ensures
