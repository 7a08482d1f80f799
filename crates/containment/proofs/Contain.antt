-- Theorem 1: a mapping from q to r goes with containment of rows on all finite facts; mappings both ways with the same rows.
use mathlib.Core.Logic.{◌↔◌}
use mathlib.Core.List.{List}
use Prim.Native.Nat.{ℕ, ◌+◌}
use native.Mathlib.Omega.{arith}
use Rattle.spec.specs.Words.{Subgoal, Rule, Listed, AllFit, becomes, Yields, itself, Mapping}
use Rattle.spec.proofs.Decided.Equal.{Eq}
use Rattle.containment.proofs.Carry.{contains}
use Rattle.containment.proofs.Fit.{fit-each}
use Rattle.containment.proofs.Freeze.{high, below-high, freeze, frozen, frozen_row, yields-frozen, converse}

-- On all finite facts that fit the arities, whatever r yields q yields.
abbrev pub Contained : {X Y : Type 0} → List ℕ → Rule X → Rule Y → Type 0
Contained arities q r = (d : List (Subgoal ℕ)) → AllFit arities d → (row : List ℕ) → Yields itself r (Listed d) row → Yields itself q (Listed d) row

-- On all finite facts that fit the arities, q and r yield the same rows.
abbrev pub YieldSame : {X Y : Type 0} → List ℕ → Rule X → Rule Y → Type 0
YieldSame arities q r = (d : List (Subgoal ℕ)) → AllFit arities d → (row : List ℕ) → Yields itself q (Listed d) row ↔ Yields itself r (Listed d) row

-- Where r contains q, the frozen body of r shows a mapping.
contained-maps : {X Y : Type 0} (arities : List ℕ) → Eq Y → (q : Rule X) (r : Rule Y) → AllFit arities r.body → Contained arities q r → Mapping q r
contained-maps arities e q r fit c =
    converse e base r (below-high base r (omega arith)) q (below-high base q (omega arith))
    (c (frozen e base r) (fit-each arities (becomes itself (freeze e base r)) r.body fit) (frozen_row e base r) (yields-frozen e base r))
  where
    base : ℕ
    base = high q + high r

-- Each rule has its own variables, of any type; those of a rule that is frozen can be told apart.
pub mapping-contains : {X Y : Type 0} (arities : List ℕ) → Eq Y → (q : Rule X) (r : Rule Y) → AllFit arities r.body → Mapping q r ↔ Contained arities q r
mapping-contains arities e q r fit = (λ m d f row y. contains m y, contained-maps arities e q r fit)

pub mappings-same : {X Y : Type 0} (arities : List ℕ) → Eq X → Eq Y → (q : Rule X) (r : Rule Y) → AllFit arities q.body → AllFit arities r.body
    → (Mapping q r × Mapping r q) ↔ YieldSame arities q r
mappings-same arities e_x e_y q r fitq fitr = (
  λ m d f row. (λ y. contains m.1 y, λ y. contains m.0 y),
  λ same. (contained-maps arities e_y q r fitr (λ d f row. (same d f row).1), contained-maps arities e_x r q fitq (λ d f row. (same d f row).0)),
)
