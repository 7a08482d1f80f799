-- A subgoal over an admitted summary whose head is distinct variables suits it.
use Rattle.spec.specs.Words.{Term, con, Subgoal, Rule}
use Rattle.spec.specs.Summaries.{Summaries, replaced, Over, OverAll}
use Rattle.containment.proofs.Suit.{Suits, SuitAll, DistinctHeads, distinct-becomes}

pub over-suits : {X : Type 0} (s : Summaries) → DistinctHeads s → (g : Subgoal (Term X)) → Over s g → Suits s g
over-suits s distinct g over = record {
  rule = over.rule;
  admitted = over.admitted;
  yields = record {
    value = replaced over.rule.head g.terms (λ x. con x);
    gives = distinct-becomes con over.rule.head g.terms (λ x. con x) (distinct g.relation over.rule over.admitted) over.long;
    holds = λ b m. tt;
  };
}

pub over-suit-all : {X : Type 0} (s : Summaries) → DistinctHeads s → (r : Rule X) → OverAll s r → SuitAll s r
over-suit-all s distinct r over g m = over-suits s distinct g (over g m)
