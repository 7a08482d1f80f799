-- Which books differ in summaries left out alone: one that is left out in both may be another; one that is left out in one of them and not in the other has a say.
use mathlib.Core.Path.{◌≡◌, refl, ap}
use mathlib.Core.Logic.{inl, inr, ⊎_elim}
use mathlib.Core.List.{[], ◌∷◌}
use Prim.Native.Nat.{ℕ}
use native.Mathlib.Omega.{arith}
use Rattle.spec.specs.Refresh.{admitted}
use Rattle.spec.specs.Book.{Summary}
use Rattle.spec.specs.LeftOut.{LeftOut, SameButLeftOut}
use Rattle.spec.proofs.Refresh.Admits.{admitted-test}
use Rattle.spec.proofs.Examples.Written.{x0, rule, on, stamped}

-- a summary with this stamp, over relation k
abbrev over : ℕ → ℕ → Summary
over s k = stamped s (rule (x0 ∷ []) (on k (x0 ∷ []) ∷ []))

left_out : (k : ℕ) → LeftOut 5 (over 4 k)
unfolding admitted
left_out k a = admitted-test 5 4 (over 4 k).rule a

-- stamp 4 under need 5 is left out, whatever its definition
other-definition : SameButLeftOut 5 (over 4 0 ∷ over 5 1 ∷ []) (over 4 1 ∷ over 5 1 ∷ [])
other-definition = (inr (left_out 0, left_out 1), (inl refl, tt))

-- stamp 6 is not: the two books do not differ in summaries left out alone
has-a-say : SameButLeftOut 5 (over 4 0 ∷ []) (over 6 0 ∷ []) → ⊥
has-a-say h = ⊎_elim (λ e. let s : 4 ≡ 6 = ap (λ (m : Summary). m.stamp) e in omega arith) (λ o. o.1 (record { by = 1; leads = refl })) h.0

also-the-other-way : SameButLeftOut 5 (over 6 0 ∷ []) (over 4 0 ∷ []) → ⊥
also-the-other-way h = ⊎_elim (λ e. let s : 6 ≡ 4 = ap (λ (m : Summary). m.stamp) e in omega arith) (λ o. o.0 (record { by = 1; leads = refl })) h.0
