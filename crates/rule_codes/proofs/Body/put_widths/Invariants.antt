use Rattle.rule_codes.specs.Steps.{WalkedTo}
use Rattle.rule_codes.proofs.SoFar.{WidthsRead}
use Rattle.rule_codes.proofs.Body.put_widths.Given as goal

abbrev pub invariant-loop-width : goal.invariant-loop-width
invariant-loop-width l = record { walked : WalkedTo l.self.relations.now l.self.bytes.now l.width-index l.at; read : WidthsRead l.self.relations.now l.self.bytes.now l.width-index l.width-items }
