-- Refusals at place 0 exclude a book that loads: the rules begin with entry 1, so they are those that turn the contents down.
use mathlib.Core.Path.{◌≡◌}
use mathlib.Core.List.{List}
use Prim.Native.Nat.{ℕ}
use native.Mathlib.Omega.{arith}
use Rattle.spec.specs.declared.Reason.{Reason}
use Rattle.spec.specs.Refusals.{Loads, Refusal, two, three, four, five, six, seven, eight}

pub loads-unrefused : (book : List ℕ) {r : Reason} → Loads book → Refusal book r → r.place ≡ 0 → ⊥
loads-unrefused book l (two f) e = l.size f
loads-unrefused book l (three a f) e = let few = l.few in omega arith
loads-unrefused book l (four a b f) e = f l.no_gaps
loads-unrefused book l (five a b w f) e = f l.relations
loads-unrefused book l (six r f) e = omega (arith, r.rule)
loads-unrefused book l (seven r f) e = omega (arith, r.rule)
loads-unrefused book l (eight r s f) e = omega (arith, r.rule)
