use Rattle.rule_codes.proofs.NineSteps.{nine-stored}
use Rattle.rule_codes.proofs.subgoals.put_subgoal.Goals as goal

pub returns : goal.returns
returns c = rw c.copy_from_slice.ensures.after (nine-stored c.args.to c.args.out.now c.from.result c.requires.1 c.from.ensures c.padded_codes.ensures)
