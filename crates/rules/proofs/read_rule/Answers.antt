use mathlib.Core.Path.{◌∙◌}
use native.Mathlib.Omega.{arith}
use Rattle.rules.proofs.RuleSteps.{Counts, no_bytes, bad-heads, one_byte, bad-goals, head-stops, head-place, goals-stop, bytes-over, all_read}
use Rattle.rules.proofs.read_rule.Goals as goal
use Rattle.rules.proofs.read_rule.Goals.{After-from-goals}

pub returns-in_default : goal.returns-in_default
returns-in_default c = let a = c.args in no_bytes a.relations.now a.most a.body.now (let h = c.in_default.ensures.item.3 in omega arith)

pub returns-then-heads-gt-MOST_HEAD : goal.returns-then-heads-gt-MOST_HEAD
returns-then-heads-gt-MOST_HEAD c =
    let a = c.args in
    let here = c.in-Some.ensures.item.3 in
    bad-heads a.relations.now a.most a.body.now _ (c.from-heads.ensures ∙ here.1 0) here.0 c.if-heads-gt-MOST_HEAD.true

pub returns-in_default-get : goal.returns-in_default-get
returns-in_default-get c =
    let a = c.args in
    let here = c.in-Some.ensures.item.3 in
    one_byte a.relations.now a.most a.body.now _ (c.from-heads.ensures ∙ here.1 0) here.0 (omega arith) (let e = c.in_default-get.ensures.lookup.3 in omega arith)

counts : (c : After-from-goals) → Counts c.args.body.now c.from-heads.result c.from-goals.result
counts c = record {
  heads = c.from-heads.ensures ∙ c.in-Some.ensures.item.3.1 0;
  goals = c.from-goals.ensures ∙ c.in-Some-get.ensures.lookup.3.1 0;
  both = let h = c.in-Some-get.ensures.lookup.3.0 in omega arith;
  few = omega arith;
}

pub returns-then-goals-lt1 : goal.returns-then-goals-lt1
returns-then-goals-lt1 c =
    let a = c.args in
    bad-goals a.relations.now a.most a.body.now _ _ (counts (goal.at.returns-then-goals-lt1 c).After-from-goals) c.then-goals-lt1.either

pub returns-in_default-read : goal.returns-in_default-read
returns-in_default-read c =
    let a = c.args in
    let front = counts (goal.at.returns-in_default-read c).After-from-goals in
    head-stops a.relations.now a.most a.body.now _ _ front (omega arith) (omega arith) _ _ _ c.new.ensures c.read_terms-read.ensures c.unwrap_err.ensures

pub read_subgoals-read-requires : goal.read_subgoals-read-requires
read_subgoals-read-requires c =
    let a = c.args in
    let front = counts (goal.at.read_subgoals-read-requires c).After-from-goals in
    head-place a.relations.now a.most a.body.now _ _ front (omega arith) (omega arith) _ _ _ c.new.ensures c.read_terms-read.ensures c.in-Ok.is _ c.new-2.ensures

pub returns-in_default-read-2 : goal.returns-in_default-read-2
returns-in_default-read-2 c =
    let a = c.args in
    let front = counts (goal.at.returns-in_default-read-2 c).After-from-goals in
    goals-stop a.relations.now a.most a.body.now _ _ front (omega arith) (omega arith) _ _ _ c.new.ensures c.read_terms-read.ensures c.in-Ok.is _ _ _ c.new-2.ensures c.read_subgoals-read.ensures c.unwrap_err-in_default-read-2.ensures

pub returns-then-end-body : goal.returns-then-end-body
returns-then-end-body c =
    let a = c.args in
    let front = counts (goal.at.returns-then-end-body c).After-from-goals in
    bytes-over a.relations.now a.most a.body.now _ _ front (omega arith) (omega arith) _ _ _ c.new.ensures c.read_terms-read.ensures c.in-Ok.is _ _ _ c.new-2.ensures c.read_subgoals-read.ensures c.in-Ok-read.is c.if-end-body.true

pub returns : goal.returns
returns c =
    let a = c.args in
    let front = counts (goal.at.returns c).After-from-goals in
    all_read a.relations.now a.most a.body.now _ _ front (omega arith) (omega arith) _ _ _ c.new.ensures c.read_terms-read.ensures c.in-Ok.is _ _ _ c.new-2.ensures c.read_subgoals-read.ensures c.in-Ok-read.is c.if-end-body.false
