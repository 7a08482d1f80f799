-- Two results that meet a public function's promise are the same.
use mathlib.Core.Path.{◌≡◌, sym, ◌∙◌}
use mathlib.Core.List.{List}
use Prim.Native.Nat.{ℕ, ◌≤◌}
use native.Mathlib.Omega.{arith}
use native.Mathlib.Decide.{ℕ_discrete, dec_lt}
use lib.Seq.{ext_get_or}
use Rattle.task.specs.Terms.{Opened}

-- bindings where a new use starts
pub opened-once : (last : ℕ) (g h k : List ℕ) → Opened last g h → Opened last g k → h ≡ k
opened-once last g h k o q = elim (ℕ_discrete last 0) [
  | yes z ↦ o.same z ∙ sym (q.same z)
  | no n ↦ ext_get_or 0 h k (o.long ∙ sym q.long) (λ x i. elim (dec_lt x 32) [
    | yes j ↦ o.low x j ∙ sym (q.low x j)
    | no j ↦ let m : 32 ≤ x = omega arith in o.high n x m ∙ sym (q.high n x m)
  ])
]
