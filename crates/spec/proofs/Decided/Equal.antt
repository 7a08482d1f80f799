-- Tests for equality: of numbers, terms, lists, subgoals and of the variables of an expansion.
use mathlib.Core.Path.{◌≡◌, refl, ap, ap₂, subst}
use mathlib.Core.Bool.{Bool, true, false, ◌&&◌}
use mathlib.Core.List.{List, [], ◌∷◌}
use Prim.Native.Nat.{ℕ}
use lib.Dec.{T, eqb, eqb→eq, eqb_refl}
use Rattle.spec.specs.Words.{Term, var, con, Subgoal}
use Rattle.spec.specs.Summaries.{Own, old, fresh}
use Rattle.spec.proofs.Lists.Tests.{and_parts, and_both, decided}

pub record Eq (X : Type 0) : Type 0 where
  pub test : X → X → Bool
  pub sound : (a b : X) → T (test a b) → a ≡ b
  pub same : (a : X) → T (test a a)

pub eq_test : {X : Type 0} (e : Eq X) (a b : X) → a ≡ b → T (e.test a b)
eq_test e a b p = subst (λ c. T (e.test a c)) p (e.same a)

pub dec_equal : {X : Type 0} → Eq X → (a b : X) → Dec (a ≡ b)
dec_equal e a b = decided (e.test a b) (e.sound a b) (eq_test e a b)

abbrev pub eq_number : Eq ℕ
eq_number = record { test = eqb; sound = eqb→eq; same = eqb_refl }

module _ {X : Type 0} (e : Eq X) where
  abbrev pub term_test : Term X → Term X → Bool
  term_test (var x) (var y) = e.test x y
  term_test (var x) (con d) = false
  term_test (con c) (var y) = false
  term_test (con c) (con d) = eqb c d

  pub term-sound : (s t : Term X) → T (term_test s t) → s ≡ t
  term-sound (var x) (var y) h = ap var (e.sound x y h)
  term-sound (var x) (con d) h = absurd h
  term-sound (con c) (var y) h = absurd h
  term-sound (con c) (con d) h = ap con (eqb→eq c d h)

  pub term-same : (t : Term X) → T (term_test t t)
  term-same (var x) = e.same x
  term-same (con c) = eqb_refl c

  abbrev pub eq_term : Eq (Term X)
  eq_term = record { test = term_test; sound = term-sound; same = term-same }

  abbrev pub own_test : Own X → Own X → Bool
  own_test (old x) (old y) = e.test x y
  own_test (old x) (fresh v y) = false
  own_test (fresh u x) (old y) = false
  own_test (fresh u x) (fresh v y) = eqb u v && eqb x y

  pub own-sound : (a b : Own X) → T (own_test a b) → a ≡ b
  own-sound (old x) (old y) h = ap old (e.sound x y h)
  own-sound (old x) (fresh v y) h = absurd h
  own-sound (fresh u x) (old y) h = absurd h
  own-sound (fresh u x) (fresh v y) h = let p = and_parts (eqb u v) (eqb x y) h in ap₂ fresh (eqb→eq u v p.0) (eqb→eq x y p.1)

  pub own_same : (a : Own X) → T (own_test a a)
  own_same (old x) = e.same x
  own_same (fresh u x) = and_both (eqb u u) (eqb x x) (eqb_refl u) (eqb_refl x)

  abbrev pub eq_own : Eq (Own X)
  eq_own = record { test = own_test; sound = own-sound; same = own_same }

  abbrev pub list_test : List X → List X → Bool
  list_test [] [] = true
  list_test [] (b ∷ m) = false
  list_test (a ∷ l) [] = false
  list_test (a ∷ l) (b ∷ m) = e.test a b && list_test l m

  pub list-sound : (l m : List X) → T (list_test l m) → l ≡ m
  list-sound [] [] h = refl
  list-sound [] (b ∷ m) h = absurd h
  list-sound (a ∷ l) [] h = absurd h
  list-sound (a ∷ l) (b ∷ m) h = let p = and_parts (e.test a b) (list_test l m) h in ap₂ ◌∷◌ (e.sound a b p.0) (list-sound l m p.1)

  pub list_same : (l : List X) → T (list_test l l)
  list_same [] = tt
  list_same (a ∷ l) = and_both (e.test a a) (list_test l l) (e.same a) (list_same l)

  abbrev pub eq_list : Eq (List X)
  eq_list = record { test = list_test; sound = list-sound; same = list_same }

  abbrev pub subgoal_test : Subgoal X → Subgoal X → Bool
  subgoal_test g h = eqb g.relation h.relation && list_test g.terms h.terms

  pub subgoal-sound : (g h : Subgoal X) → T (subgoal_test g h) → g ≡ h
  subgoal-sound g h t =
      let p = and_parts (eqb g.relation h.relation) (list_test g.terms h.terms) t in
      λ i. record { relation = eqb→eq g.relation h.relation p.0 i; terms = list-sound g.terms h.terms p.1 i }

  pub subgoal-same : (g : Subgoal X) → T (subgoal_test g g)
  subgoal-same g = and_both (eqb g.relation g.relation) (list_test g.terms g.terms) (eqb_refl g.relation) (list_same g.terms)

  abbrev pub eq_subgoal : Eq (Subgoal X)
  eq_subgoal = record { test = subgoal_test; sound = subgoal-sound; same = subgoal-same }
