use borrow.Author.Rules.{rules}
use Rattle.rule_codes.specs.Steps.{PaddedAt}
use Rattle.rule_codes.proofs.Made.{made}
use Rattle.rule_codes.proofs.NineSteps.{padded-whole}
use Rattle.rule_codes.proofs.places.padded_codes.Goals as goal

pub returns : goal.returns
returns c =
    let a = c.args in
    padded-whole c.from_fn.ensures.items.long
    (λ k h. made (λ k w. PaddedAt a.body.now a.at a.many k a.table.now w) (λ k w q r. (search rules, search rules)) c.from_fn.ensures.items k 0 h)
