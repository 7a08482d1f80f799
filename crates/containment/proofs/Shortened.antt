-- Theorem 2, its consequences: an equivalent list contains one no longer than the question, and any equivalent rewriting has such a list.
use mathlib.Core.Logic.{◌↔◌}
use mathlib.Core.List.{List}
use Prim.Native.Nat.{ℕ, ◌≤◌}
use native.Mathlib.Omega.{arith}
use lib.ListN.{length}
use Rattle.spec.specs.Words.{Term, Subgoal, Rule}
use Rattle.spec.specs.Summaries.{Summaries, OverAll, Equivalent, rewriting}
use Rattle.spec.specs.Answer.{Rewrites, Answer}
use Rattle.containment.proofs.Suit.{SuitAll, row-suits, DistinctHeads, suits-over}
use Rattle.containment.proofs.ListsOfRows.{image-of}
use Rattle.containment.proofs.Part.{part}
use Rattle.containment.proofs.OverSuits.{over-suit-all}
use Rattle.containment.proofs.Normal.{OrderedList, OrderedIn, put-in-order, answer-least}

-- "It has at most as many subgoals as the question": an equivalent list contains such a one.
pub shorten : (s : Summaries) (q : Rule ℕ) (l : List (Subgoal (Term ℕ))) → Rewrites s q l → OrderedIn s q l (length q.body)
shorten s q l w =
    let p = part s q l (λ g m. row-suits g (w.rows g m)) w.equivalent.there in
    let o = put-in-order s q p.list (λ g m. w.rows g (p.within g m)) p.there in
    record {
      ordered = record { list = o.ordered.list; rewrites = o.ordered.rewrites; few = omega (arith, o.ordered.few, p.long) };
      within = λ g m. p.within g (o.within g m);
    }

pub answer-few : (s : Summaries) (q : Rule ℕ) (l : List (Subgoal (Term ℕ))) → Answer s q l → length l ≤ length q.body
answer-few s q l a = let o = (shorten s q l a.holds).ordered in omega (arith, answer-least s q l o.list a o.rewrites, o.few)

-- Any equivalent rewriting whose subgoals suit their summaries, with variables of any type.
pub normal : {X : Type 0} (s : Summaries) (q : Rule ℕ) (p : Rule X) → SuitAll s p → Equivalent s q p → OrderedList s q (length p.body)
normal s q p suits e =
    let i = image-of s q p suits e in
    let o = (put-in-order s q i.0.list i.0.rows i.1).ordered in
    record { list = o.list; rewrites = o.rewrites; few = omega (arith, o.few, i.0.long) }

-- Any over admitted summaries, heads of distinct variables.
pub normal-over : {X : Type 0} (s : Summaries) → DistinctHeads s → (q : Rule ℕ) (p : Rule X) → OverAll s p → Equivalent s q p → OrderedList s q (length p.body)
normal-over s distinct q p over = normal s q p (over-suit-all s distinct p over)

-- So 'no equivalent rewriting' (refusal 10) and 'no equivalent list of summary rows' are one.
pub any-rewriting : (s : Summaries) → DistinctHeads s → (q : Rule ℕ) → ((p : Rule ℕ) × OverAll s p × Equivalent s q p) ↔ ((l : List (Subgoal (Term ℕ))) × Rewrites s q l)
any-rewriting s distinct q = (
  λ w. let o = normal-over s distinct q w.0 w.1 w.2 in (o.list, o.rewrites),
  λ w. (rewriting q w.0, λ g m. suits-over s g (row-suits g (w.1.rows g m)), w.1.equivalent),
)
