-- Small cases of the definitions, each settled by computation or in a line: orders, arities, constants, uses, leads.
use mathlib.Core.Path.{◌≡◌, refl, ap}
use mathlib.Core.Logic.{inl, inr}
use mathlib.Core.Option.{some}
use mathlib.Core.List.Memᴰ
use mathlib.Core.List.{List, [], ◌∷◌, map}
use Prim.Native.Nat.{ℕ, ◌<◌}
use native.Mathlib.Omega.{arith}
use lib.IntN.{pos, negsuc}
use lib.Dec.{lit<}
use Rattle.spec.specs.Words.{Term, var, con, Subgoal, Fits, Mapping}
use Rattle.spec.specs.Summaries.{Own, old, fresh, uses}
use Rattle.spec.specs.Order.{TermBefore, RowBefore, Ascending, ShorterFirst}
use Rattle.spec.specs.Refresh.{number_after, Lead, ahead, unfilled, lead}
use Rattle.spec.proofs.Examples.Written.{x0, x1, x2, rule, on}

-- "Variables sort before constants, each by number."
variable-first : TermBefore (var 31) (con 0)
variable-first = tt

constant-later : TermBefore (con 0) (var 31) → ⊥
constant-later h = h

variables-by-number : TermBefore (var 2) (var 10)
variables-by-number = lit< tt

constants-by-number : TermBefore (con 2) (con 10)
constants-by-number = lit< tt

-- "Rows sort by summary number, then term by term."
summary-first : RowBefore (on 1 (con 9 ∷ [])) (on 2 (x0 ∷ []))
summary-first = inl (lit< tt)

then-terms : RowBefore (on 1 (x0 ∷ x2 ∷ [])) (on 1 (x0 ∷ con 0 ∷ []))
then-terms = inr (refl, inr (refl, inl tt))

ascending : Ascending (on 1 (x0 ∷ x2 ∷ []) ∷ on 1 (x0 ∷ con 0 ∷ []) ∷ on 2 (x0 ∷ []) ∷ [])
ascending = (inr (refl, inr (refl, inl tt)), (inl (lit< tt), tt))

-- the shorter list first, though its row is a later one
shorter-first : ShorterFirst (on 2 (x0 ∷ []) ∷ []) (on 1 (x0 ∷ []) ∷ on 1 (x1 ∷ []) ∷ [])
shorter-first = inl (lit< tt)

-- "each as long as the relation's arity"
fact : ℕ → List ℕ → Subgoal ℕ
fact n row = record { relation = n; terms = row }

fits : Fits (2 ∷ 3 ∷ []) (fact 1 (4 ∷ 5 ∷ 6 ∷ []))
unfolding fact
fits = record { known = lit< tt; long = refl }

other-arity : Fits (2 ∷ 3 ∷ []) (fact 1 (4 ∷ 5 ∷ [])) → ⊥
unfolding fact
other-arity f = let e : ◌≡◌ {A = ℕ} 2 3 = f.long in omega arith

no-relation : Fits (2 ∷ 3 ∷ []) (fact 2 (4 ∷ 5 ∷ [])) → ⊥
unfolding fact
no-relation f = let h : 2 < 2 = f.known in omega arith

-- "constants to themselves": none from () from 0(5) to () from 0(0)
constants-kept : Mapping {X = ℕ} {Y = ℕ} (rule [] (on 0 (con 5 ∷ []) ∷ [])) (rule [] (on 0 (con 0 ∷ []) ∷ [])) → ⊥
constants-kept m =
    let e = Memᴰ.eq_of_singleton (m.holds (on 0 (con 5 ∷ [])) (Memᴰ.head refl)) in
    let f : ◌≡◌ {A = List (Term ℕ)} (con 5 ∷ []) (con 0 ∷ []) = ap (λ g. g.terms) e in
    let z : ◌≡◌ {A = ℕ} 5 0 = cc in
    omega arith

-- two uses of (A,C) from 0(A,B), 1(B,C): the given terms for A and C, another B each
abbrev of : ℕ → Term (Own ℕ) → Term (Own ℕ) → Subgoal (Term (Own ℕ))
of n s t = record { relation = n; terms = s ∷ t ∷ [] }

two-uses : uses (some (rule (x0 ∷ x2 ∷ []) (on 0 (x0 ∷ x1 ∷ []) ∷ on 1 (x1 ∷ x2 ∷ []) ∷ [])) ∷ []) 0 (on 1 (x0 ∷ x1 ∷ []) ∷ on 1 (x1 ∷ con 7 ∷ []) ∷ [])
    ≡ (of 0 (var (old 0)) (var (fresh 0 1)) ∷ of 1 (var (fresh 0 1)) (var (old 1)) ∷ []) ∷ (of 0 (var (old 1)) (var (fresh 1 1)) ∷ of 1 (var (fresh 1 1)) (con 7) ∷ []) ∷ []
two-uses = refl

-- A need, a stamp, and the lead that the specification tells (its own cases: in the table of crate sheets).
record LeadCase : Type 0 where
  need : ℕ
  stamp : ℕ
  leads : Lead

abbrev case : ℕ → ℕ → Lead → LeadCase
case need stamp leads = record { need = need; stamp = stamp; leads = leads }

-- "after 4,294,967,295 comes 1": eight steps from book A's need to its first stamp
eight-steps : number_after 4294967290 8 ≡ 3
unfolding number_after
eight-steps = refl

lead_cases : List LeadCase
lead_cases =
    -- book A, with both stamps of summary 3
    case 4294967290 3 (ahead (pos 8))
    ∷ case 4294967290 4294967295 (ahead (pos 5))
    ∷ case 4294967290 4294967289 (ahead (negsuc 0))
    ∷ case 4294967290 4294967290 (ahead (pos 0))
    -- over the end of the ring, forth and back: there is no 0 on it
    ∷ case 4294967295 1 (ahead (pos 1))
    ∷ case 1 4294967295 (ahead (negsuc 0))
    ∷ case 2 1 (ahead (negsuc 0))
    -- half way round, on both sides and over the end
    ∷ case 1 2147483648 (ahead (pos 2147483647))
    ∷ case 1 2147483649 (ahead (negsuc 2147483646))
    ∷ case 2147483649 1 (ahead (pos 2147483647))
    ∷ case 2147483649 2 (ahead (negsuc 2147483646))
    -- a stamp of 0, whatever the need; a need of 0
    ∷ case 1 0 unfilled
    ∷ case 4294967295 0 unfilled
    ∷ case 0 0 unfilled
    ∷ case 0 1 (ahead (pos 0))
    ∷ case 0 4294967295 (ahead (pos 0))
    ∷ []

leads-told : map (λ c. lead c.need c.stamp) lead_cases ≡ map (λ c. c.leads) lead_cases
unfolding lead_cases
leads-told = refl
