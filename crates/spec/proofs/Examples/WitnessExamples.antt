-- Ways there and back that are containment mappings, and ways that are none; containment mappings and what is none.
use mathlib.Core.Path.{◌≡◌, sym, ap, ◌∙◌}
use mathlib.Core.Option.{some-injective}
use mathlib.Core.List.{List, [], ◌∷◌, head-eq_of_cons-eq}
use Prim.Native.Nat.{ℕ}
use native.Mathlib.Omega.{arith}
use Rattle.spec.specs.Words.{Term, con, Subgoal, Rule, Mapping}
use Rattle.spec.specs.Summaries.{old, expansion}
use Rattle.spec.specs.Answer.{AtPlaces, Sends, There, Back}
use Rattle.spec.proofs.Decided.Equal.{eq_number}
use Rattle.spec.proofs.Decided.Decide.{maps-sound, maps-complete}
use Rattle.spec.proofs.Decided.WitnessTest.{there-sound, there-complete, back-sound, back-complete}
use Rattle.spec.proofs.Examples.AnswerExamples.{single, alike}
use Rattle.spec.proofs.Examples.Written.{x0, x1, x2, rule, on}

-- the rewriting of the later variable
abbrev later : Rule ℕ
later = rule (x1 ∷ []) (on 1 (x1 ∷ []) ∷ [])

back-to-the-second : Back single (alike (x1 ∷ [])) later (2 ∷ [])
back-to-the-second = back-sound single (alike (x1 ∷ [])) later (2 ∷ []) tt

-- To the first it is none: the subgoal wants X0 for X1, and the head wants X1.
back-to-the-first : Back single (alike (x1 ∷ [])) later (1 ∷ []) → ⊥
back-to-the-first b = go b.targets b.named b.mapping
  where
    go : (targets : List (Subgoal (Term ℕ))) → AtPlaces (alike (x1 ∷ [])).body (1 ∷ []) targets → Sends (expansion single later) (x1 ∷ []) targets → ⊥
    go [] named m = named
    go (g ∷ h ∷ targets) named m = named.1
    go (g ∷ []) named m =
        let first : on 0 (x0 ∷ []) ≡ g = some-injective (on 0 (x0 ∷ [])) g named.0 in
        let sent : m.value (old 1) ∷ [] ≡ x0 ∷ [] = ap (λ k. k.terms) (head-eq_of_cons-eq m.sends ∙ sym first) in
        let kept : m.value (old 1) ∷ [] ≡ x1 ∷ [] = m.gives in
        let z : ◌≡◌ {A = ℕ} 0 1 = cc (sent, kept) in
        omega arith

-- "All count from 1": there is no subgoal 0, and none past the last.
back-to-none : Back single (alike (x1 ∷ [])) later (0 ∷ []) → ⊥
back-to-none = back-complete single (alike (x1 ∷ [])) later (0 ∷ [])

back-past-the-last : Back single (alike (x1 ∷ [])) later (3 ∷ []) → ⊥
back-past-the-last = back-complete single (alike (x1 ∷ [])) later (3 ∷ [])

-- one byte for each subgoal, no more and no fewer
back-too-long : Back single (alike (x1 ∷ [])) later (2 ∷ 2 ∷ []) → ⊥
back-too-long = back-complete single (alike (x1 ∷ [])) later (2 ∷ 2 ∷ [])

back-too-short : Back single (alike (x1 ∷ [])) later [] → ⊥
back-too-short = back-complete single (alike (x1 ∷ [])) later []

-- there: rewriting subgoal and subgoal within that summary
there-twice : There single (alike (x1 ∷ [])) later (1 ∷ 1 ∷ 1 ∷ 1 ∷ [])
there-twice = there-sound single (alike (x1 ∷ [])) later (1 ∷ 1 ∷ 1 ∷ 1 ∷ []) tt

there-within-none : There single (alike (x1 ∷ [])) later (1 ∷ 1 ∷ 1 ∷ 2 ∷ []) → ⊥
there-within-none = there-complete single (alike (x1 ∷ [])) later (1 ∷ 1 ∷ 1 ∷ 2 ∷ [])

there-by-halves : There single (alike (x1 ∷ [])) later (1 ∷ 1 ∷ 1 ∷ []) → ⊥
there-by-halves = there-complete single (alike (x1 ∷ [])) later (1 ∷ 1 ∷ 1 ∷ [])

-- of two uses, the one that has the head's variable
abbrev uses-of-both : Rule ℕ
uses-of-both = rule (x1 ∷ []) (on 1 (x0 ∷ []) ∷ on 1 (x1 ∷ []) ∷ [])

there-by-the-head : There single (alike (x1 ∷ [])) uses-of-both (1 ∷ 1 ∷ 2 ∷ 1 ∷ [])
there-by-the-head = there-sound single (alike (x1 ∷ [])) uses-of-both (1 ∷ 1 ∷ 2 ∷ 1 ∷ []) tt

there-by-another : There single (alike (x1 ∷ [])) uses-of-both (1 ∷ 1 ∷ 1 ∷ 1 ∷ []) → ⊥
there-by-another = there-complete single (alike (x1 ∷ [])) uses-of-both (1 ∷ 1 ∷ 1 ∷ 1 ∷ [])

-- "head to head place by place": (X0,X1) and (X1,X0) are not equivalent over 0(X0), 1(X1)
abbrev apart : List (Term ℕ) → Rule ℕ
apart head = rule head (on 0 (x0 ∷ []) ∷ on 1 (x1 ∷ []) ∷ [])

places-kept : Mapping (apart (x0 ∷ x1 ∷ [])) (apart (x1 ∷ x0 ∷ [])) → ⊥
places-kept = maps-complete eq_number eq_number (apart (x0 ∷ x1 ∷ [])) (apart (x1 ∷ x0 ∷ []))

-- a variable may become a constant, a constant no variable
constant-for-a-variable : Mapping (rule [] (on 0 (x0 ∷ x1 ∷ []) ∷ [])) (rule [] (on 0 (x2 ∷ con 0 ∷ []) ∷ []))
constant-for-a-variable = maps-sound eq_number eq_number (rule [] (on 0 (x0 ∷ x1 ∷ []) ∷ [])) (rule [] (on 0 (x2 ∷ con 0 ∷ []) ∷ [])) tt

variable-for-a-constant : Mapping (rule [] (on 0 (x2 ∷ con 0 ∷ []) ∷ [])) (rule [] (on 0 (x0 ∷ x1 ∷ []) ∷ [])) → ⊥
variable-for-a-constant = maps-complete eq_number eq_number (rule [] (on 0 (x2 ∷ con 0 ∷ []) ∷ [])) (rule [] (on 0 (x0 ∷ x1 ∷ []) ∷ []))

-- "every subgoal to a subgoal": the last too
last-subgoal : Mapping (apart []) (rule [] (on 0 (x0 ∷ []) ∷ [])) → ⊥
last-subgoal = maps-complete eq_number eq_number (apart []) (rule [] (on 0 (x0 ∷ []) ∷ []))
