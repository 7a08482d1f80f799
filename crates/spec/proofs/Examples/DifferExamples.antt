-- Rules over summaries that differ from a question, with the facts on which they do, and a rule that differs on none.
use mathlib.Core.Path.{◌≡◌, refl, subst}
use mathlib.Core.Option.{some}
use mathlib.Core.List.Memᴰ
use mathlib.Core.List.{List, [], ◌∷◌}
use Prim.Native.Nat.{ℕ}
use native.Mathlib.Omega.{arith}
use lib.Dec.{lit<}
use Rattle.spec.specs.Words.{Subgoal, Rule, Facts, Listed, AllFit, becomes, each, Yields, itself}
use Rattle.spec.specs.Summaries.{summary, Yielded, HoldJust}
use Rattle.spec.specs.Refresh.{admitted}
use Rattle.spec.specs.Book.{Book, admitted_of}
use Rattle.spec.specs.Demand.{OverAdmitted, OnlyOne, first, second, DiffersSomewhere}
use Rattle.spec.proofs.Held.{yielded-just}
use Rattle.spec.proofs.Decided.Equal.{eq_number}
use Rattle.spec.proofs.Decided.Decide.{yields-sound, yields-complete}
use Rattle.spec.proofs.Examples.Written.{x0, x1, rule, on, stamped}
use Rattle.spec.proofs.Examples.FactExamples.{fact}

-- just one of two: not both, and not neither
not-both : {P : Type 0} → P → OnlyOne P P → ⊥
not-both p (first a n) = n p
not-both p (second n b) = n p

not-neither : {P Q : Type 0} → (P → ⊥) → (Q → ⊥) → OnlyOne P Q → ⊥
not-neither np nq (first a n) = np a
not-neither np nq (second n b) = nq b

-- (X0) from 0(X0,X1); summary 1: (A) from 0(A,B); 2: (B) from 0(A,B); 3, left out: (A) from 0(A,A)
abbrev starts : Rule ℕ
starts = rule (x0 ∷ []) (on 0 (x0 ∷ x1 ∷ []) ∷ [])

abbrev ends : Rule ℕ
ends = rule (x1 ∷ []) (on 0 (x0 ∷ x1 ∷ []) ∷ [])

abbrev book : Book
book = record { arities = 2 ∷ []; need = 1; question = starts; summaries = stamped 1 starts ∷ stamped 1 ends ∷ stamped 0 (rule (x0 ∷ []) (on 0 (x0 ∷ x0 ∷ []) ∷ [])) ∷ [] }

-- (X0) from that summary's row (X0)
abbrev from : ℕ → Rule ℕ
from n = rule (x0 ∷ []) (on n (x0 ∷ []) ∷ [])

-- one street, from 1 to 2
abbrev street : List (Subgoal ℕ)
street = fact 0 (1 ∷ 2 ∷ []) ∷ []

street-fits : AllFit (2 ∷ []) street
street-fits g m = rw (Memᴰ.eq_of_singleton m) record { known = lit< tt; long = refl }

-- what a rule from a summary's row yields, where the summary holds just what its definition yields
module _ (n : ℕ) (r : Rule ℕ) (is : summary (admitted_of book) n ≡ some r) (facts : List (Subgoal ℕ)) (held : Facts ℕ) (just : HoldJust (admitted_of book) (Listed facts) held) (row : List ℕ) where
  yields-from : Yields itself (from n) held row → Yields itself r (Listed facts) row
  yields-from y = subst (Yields itself r (Listed facts)) y.gives ((just (each (becomes itself y.value) (on n (x0 ∷ []))) r is).0 (y.holds (on n (x0 ∷ [])) (Memᴰ.head refl)))

-- Ends for starts: the question yields (1), where the street starts, and the rule does not.
differs-at-the-start : DiffersSomewhere book (from 2)
unfolding admitted
differs-at-the-start = record {
  facts = street;
  fit = street-fits;
  row = 1 ∷ [];
  stored = Yielded itself (admitted_of book) (Listed street);
  stored_just = yielded-just (admitted_of book) (Listed street);
  differs = λ held just. first (yields-sound eq_number eq_number itself starts street (1 ∷ []) tt) (λ y. yields-complete eq_number eq_number itself ends street (1 ∷ []) (yields-from 2 ends refl street held just (1 ∷ []) y));
}

-- The rule yields (2), where the street ends, and the question does not.
differs-at-the-end : DiffersSomewhere book (from 2)
unfolding admitted
differs-at-the-end = record {
  facts = street;
  fit = street-fits;
  row = 2 ∷ [];
  stored = Yielded itself (admitted_of book) (Listed street);
  stored_just = yielded-just (admitted_of book) (Listed street);
  differs = λ held just. second (yields-complete eq_number eq_number itself starts street (2 ∷ []))
      record { value = λ x. 2; gives = refl; holds = λ g m. rw (Memᴰ.eq_of_singleton m) ((just (fact 2 (2 ∷ [])) ends refl).1 (yields-sound eq_number eq_number itself ends street (2 ∷ []) tt)) };
}

-- Summary 1 has the question's own definition: no facts and no row tell the rule from it.
differs-nowhere : DiffersSomewhere book (from 1) → ⊥
unfolding admitted
differs-nowhere w = go (w.differs (Yielded itself (admitted_of book) (Listed w.facts)) (yielded-just (admitted_of book) (Listed w.facts)))
  where
    go : OnlyOne (Yields itself starts (Listed w.facts) w.row) (Yields itself (from 1) (Yielded itself (admitted_of book) (Listed w.facts)) w.row) → ⊥
    go (first y never) = never record { value = y.value; gives = y.gives; holds = λ g m. rw (Memᴰ.eq_of_singleton m) record { rule = starts; admitted = refl; yields = record { value = y.value; gives = refl; holds = y.holds } } }
    go (second never y) = never (yields-from 1 starts refl w.facts (Yielded itself (admitted_of book) (Listed w.facts)) (yielded-just (admitted_of book) (Listed w.facts)) w.row y)

-- "over admitted summaries": the first two are, the one left out is not, nor one past the last, nor number 0.
over-the-first : OverAdmitted (admitted_of book) (from 1)
unfolding admitted
over-the-first g m = rw (Memᴰ.eq_of_singleton m) (starts, refl)

over-one-left-out : OverAdmitted (admitted_of book) (from 3) → ⊥
unfolding admitted
over-one-left-out o = let z : ◌≡◌ {A = ℕ} 0 1 = cc (o (on 3 (x0 ∷ [])) (Memᴰ.head refl)).1 in omega arith

over_none : OverAdmitted (admitted_of book) (from 0) → ⊥
unfolding admitted
over_none o = let z : ◌≡◌ {A = ℕ} 0 1 = cc (o (on 0 (x0 ∷ [])) (Memᴰ.head refl)).1 in omega arith

-- every subgoal, the last too
over-the-last : OverAdmitted (admitted_of book) (rule (x0 ∷ []) (on 1 (x0 ∷ []) ∷ on 4 (x0 ∷ []) ∷ [])) → ⊥
unfolding admitted
over-the-last o = let z : ◌≡◌ {A = ℕ} 0 1 = cc (o (on 4 (x0 ∷ [])) (Memᴰ.tail (Memᴰ.head refl))).1 in omega arith
