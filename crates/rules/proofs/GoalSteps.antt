-- What a subgoal's step answers, one law for each return of the code.
use mathlib.Core.Path.{◌≡◌, sym, ap, ap₂, ◌∙◌, refl}
use mathlib.Core.List.{List, ◌∷◌}
use Prim.Native.Nat.{ℕ, ◌+◌, ◌<◌, ◌≤◌}
use native.Mathlib.Numerals.{add-one}
use lib.ListN.{length, get_or, drop, drop_of_length-le}
use lib.Seq.{drop-cons}
use borrow.Author.Tests.{lt-ltb, le-ltb}
use Rattle.std.specs.Prelude.{Result, Err}
use Rattle.spec.specs.Words.{Term}
use Rattle.spec.proofs.Bytes.RuleReading.{Read, got, bad, bad_relation, and_then, read_term, read_many, as_subgoal, read_subgoal}
use Rattle.rules.specs.declared.subgoals.Fault.{Fault}
use Rattle.rules.specs.declared.subgoals.Fault.TheVariants.{Relation, Early}
use Rattle.rules.specs.declared.subgoals.Front.{Front}
use Rattle.rules.specs.declared.subgoals.Marks.{Marks}
use Rattle.rules.specs.Marked.{stepped, marks, of_goal}

module _ (m : Marks) (arities s : List ℕ) (at : ℕ) where
  abbrev answer : Result Front Fault
  answer = stepped (of_goal m) (length s) (read_subgoal arities (drop at s))

  pub goal-end : length s ≤ at → Err Early ≡ answer
  unfolding stepped
  goal-end h = rw (drop_of_length-le s h)

  module _ (h : at < length s) (r : ℕ) (e : r ≡ get_or s at 0) where
    named : read_subgoal arities (drop at s) ≡ read_subgoal arities (r ∷ drop (at + 1) s)
    named = ap (read_subgoal arities) (drop-cons s at 0 h ∙ ap₂ (λ x p. x ∷ drop p s) (sym e) (sym (add-one at)))

    pub goal-unknown : length arities ≤ r → Err Relation ≡ answer
    unfolding stepped
    goal-unknown l =
        let e : read_subgoal arities (r ∷ drop (at + 1) s) ≡ bad bad_relation = rw (le-ltb r (length arities) l) in
        sym (ap (stepped (of_goal m) (length s)) (named ∙ e))

    same-notes : (n : ℕ) (z : Read (List (Term ℕ))) → stepped (marks m) n z ≡ stepped (of_goal m) n (and_then z (as_subgoal r))
    unfolding stepped
    same-notes n (got ts rest) = refl
    same-notes n (bad f) = refl

    pub goal-terms : r < length arities → (k : ℕ) → k ≡ get_or arities r 0 → (step : Result Front Fault)
        → step ≡ stepped (marks m) (length s) (read_many read_term k (drop (at + 1) s)) → step ≡ answer
    goal-terms l k q step w =
        w
        ∙ ap (λ j. stepped (marks m) (length s) (read_many read_term j (drop (at + 1) s))) q
        ∙ same-notes (length s) (read_many read_term (get_or arities r 0) (drop (at + 1) s))
        ∙ sym (ap (stepped (of_goal m) (length s)) (named ∙ rw (lt-ltb r (length arities) l)))
