-- The orders of the specification are strict, compare any two, and have tests.
use mathlib.Core.Path.{◌≡◌, ap}
use mathlib.Core.Logic.{◌⊎◌, inl, inr}
use mathlib.Core.Bool.{Bool, true, false}
use Prim.Native.Nat.{ℕ, ◌<◌}
use native.Mathlib.Omega.{arith}
use lib.ListN.{length}
use lib.Dec.{T, ltb, ltb→lt, lt→ltb}
use Rattle.spec.specs.Words.{Term, var, con}
use Rattle.spec.specs.Order.{TermBefore, ListBefore, RowBefore, ShorterFirst}
use Rattle.spec.proofs.Decided.Equal.{eq_number, eq_term, eq_subgoal}
use Rattle.spec.proofs.Lists.Strict.{Strict, numbers-compare, number_order, list_order, number_first_order}

-- the same, of what a function makes of the two
pub compared : {A B P Q : Type 0} (f : A → B) {a b : A} → P ⊎ ((a ≡ b) ⊎ Q) → P ⊎ ((f a ≡ f b) ⊎ Q)
compared f (inl h) = inl h
compared f (inr (inl e)) = inr (inl (ap f e))
compared f (inr (inr h)) = inr (inr h)

abbrev pub term_before : Term ℕ → Term ℕ → Bool
term_before (var x) (var y) = ltb x y
term_before (var x) (con d) = true
term_before (con c) (var y) = false
term_before (con c) (con d) = ltb c d

abbrev pub term_order : Strict TermBefore
term_order = record { never = never; trans = trans; compare = compare; test = term_before; sound = sound; complete = complete }
  where
    never : (a : Term ℕ) → TermBefore a a → ⊥
    never (var x) h = omega arith
    never (con c) h = omega arith

    trans : (a b c : Term ℕ) → TermBefore a b → TermBefore b c → TermBefore a c
    trans (var x) (var y) (var z) h k = omega arith
    trans (var x) (var y) (con z) h k = tt
    trans (var x) (con y) (var z) h k = absurd k
    trans (var x) (con y) (con z) h k = tt
    trans (con x) (var y) z h k = absurd h
    trans (con x) (con y) (var z) h k = absurd k
    trans (con x) (con y) (con z) h k = omega arith

    compare : (a b : Term ℕ) → TermBefore a b ⊎ ((a ≡ b) ⊎ TermBefore b a)
    compare (var x) (var y) = compared var (numbers-compare x y)
    compare (var x) (con d) = inl tt
    compare (con c) (var y) = inr (inr tt)
    compare (con c) (con d) = compared con (numbers-compare c d)

    sound : (a b : Term ℕ) → T (term_before a b) → TermBefore a b
    sound (var x) (var y) h = ltb→lt x y h
    sound (var x) (con d) h = tt
    sound (con c) (var y) h = h
    sound (con c) (con d) h = ltb→lt c d h

    complete : (a b : Term ℕ) → TermBefore a b → T (term_before a b)
    complete (var x) (var y) h = lt→ltb x y h
    complete (var x) (con d) h = tt
    complete (con c) (var y) h = h
    complete (con c) (con d) h = lt→ltb c d h

abbrev pub row_order : Strict RowBefore
row_order = number_first_order (λ g. g.relation) (λ g. g.terms) (list_order (eq_term eq_number) term_order) (λ a b e p i. record { relation = e i; terms = p i })

abbrev pub rows_order : Strict (ListBefore RowBefore)
rows_order = list_order (eq_subgoal (eq_term eq_number)) row_order

abbrev pub shorter_order : Strict ShorterFirst
shorter_order = number_first_order length (λ l. l) rows_order (λ a b e p. p)

abbrev pub bytes_order : Strict (ListBefore ◌<◌)
bytes_order = list_order eq_number number_order
