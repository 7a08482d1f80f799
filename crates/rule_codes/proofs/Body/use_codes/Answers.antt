use Rattle.rule_codes.proofs.UseLaws.{use-codes}
use Rattle.rule_codes.proofs.Body.use_codes.Goals as goal

pub use_table-table-requires : goal.use_table-table-requires
use_table-table-requires c = let u = c.requires.0 in (record { arities = c.args.self.now.relations.now; rule = u.rule; terms = u.terms; is = u.is }, c.requires.2, c.requires.3)

pub returns : goal.returns
returns c = use-codes c.use_table-table.ensures c.put_subgoals.ensures
