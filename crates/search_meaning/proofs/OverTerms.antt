-- The general law over terms of rules: variables have values, constants stay.
use mathlib.Core.Path.{◌≡◌, refl, sym, ap, ◌∙◌, subst}
use mathlib.Core.Logic.{◌↔◌}
use mathlib.Core.List.{List, map}
use Prim.Native.Nat.{ℕ, suc, ◌≤◌}
use native.Mathlib.Omega.{arith}
use Rattle.spec.specs.Words.{Term, var, con, Subgoal, becomes, each}
use Rattle.spec.specs.Answer.{AtPlaces}
use Rattle.spec.proofs.Lists.Gathered.{map_same}
use Rattle.task.specs.Mapped.{Mapped}
use Rattle.search_meaning.specs.Coded.{Naming, Coding, TermIn, task, Ready, Valued, Sent, OverTerms}
use Rattle.search_meaning.proofs.General.{mapped-is}

-- values that are the same on the terms of the subgoals make the same of these
pub each_same : {S D : Type 0} (f g : S → D) (src : List (Subgoal S)) → ((t : S) → TermIn t src → f t ≡ g t) → map (each f) src ≡ map (each g) src
each_same f g src same = map_same (each f) (each g) src (λ h i j. record { relation = h.relation; terms = map_same f g h.terms (λ t m. same t (h, i, m)) j })

module _ {X Y : Type 0} (n : Naming (Term X)) (c : Coding (Term Y)) (names : ℕ → X) (src : List (Subgoal (Term X))) (lasts : List ℕ) (tgt : List (Subgoal (Term Y))) (own b : List ℕ)
    (ready : Ready n c src lasts tgt own b) (terms : OverTerms n c names src b) where
  valued-sent : (l : List ℕ) → Valued n c src tgt b l → Sent c names src tgt b l
  valued-sent l m = record {
    value = λ x. m.value (var x);
    sends = subst (AtPlaces tgt (map suc l)) (each_same m.value (becomes con (λ x. m.value (var x))) src same) m.sends;
    extends = λ x o. ap m.value (sym (terms.named x o)) ∙ m.extends x o;
  }
    where
      same : (t : Term X) → TermIn t src → m.value t ≡ becomes con (λ x. m.value (var x)) t
      same (var x) i = refl
      same (con k) i = m.keeps (con k) i (terms.constants k i) ∙ terms.same k i

  sent-valued : (l : List ℕ) → Sent c names src tgt b l → Valued n c src tgt b l
  sent-valued l m = record {
    value = becomes con m.value;
    sends = m.sends;
    keeps = keeps;
    extends = λ x o. ap (becomes con m.value) (terms.named x o) ∙ m.extends x o;
  }
    where
      keeps : (t : Term X) → TermIn t src → 64 ≤ n.code t → becomes con m.value t ≡ c.read (n.code t)
      keeps (var x) i h = absurd (omega (arith, terms.slots x i))
      keeps (con k) i h = sym (terms.same k i)

  -- The law.
  pub sent_is : (l : List ℕ) → Mapped (task n c src lasts tgt own) b l ↔ Sent c names src tgt b l
  sent_is l = let w = mapped-is n c src lasts tgt own b ready l in (λ m. valued-sent l (w.0 m), λ m. w.1 (sent-valued l m))
