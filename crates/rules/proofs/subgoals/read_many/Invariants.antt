use Prim.Native.Nat.{◌-◌}
use Rattle.rules.specs.Marked.{Repeated}
use Rattle.rules.proofs.subgoals.read_many.Given as goal

-- what is left to read gives the whole answer
abbrev pub invariant-loop : goal.invariant-loop
invariant-loop g l =
    (r : _) → Repeated (λ x s. goal.F-post g l.read_one x s) (l.k - l.counter) l.front r → Repeated (λ x s. goal.F-post g l.read_one x s) l.k l.fn.from r
