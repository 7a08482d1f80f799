use Rattle.rule_codes.specs.Steps.{WalkedTo}
use Rattle.rule_codes.proofs.SoFar.{CodesWritten}
use Rattle.rule_codes.proofs.Body.put_subgoals.Given as goal

abbrev pub invariant-loop-i : goal.invariant-loop-i
invariant-loop-i l = record { walked : WalkedTo l.self.relations.now l.self.bytes.now l.i l.at; written : CodesWritten l.self.relations.now l.self.bytes.now l.table l.initial.out l.i l.out }
