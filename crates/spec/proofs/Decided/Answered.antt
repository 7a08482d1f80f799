-- An accepted answer with its witness, computed; it exists exactly where some list of rows works, and is one.
use mathlib.Core.Path.{◌≡◌, refl, sym, ap, ◌∙◌, subst}
use mathlib.Core.Logic.{◌↔◌}
use mathlib.Core.Option.{Option, some, none, none-ne-some, some-ne-none, some-injective}
use mathlib.Core.List.{List}
use Prim.Native.Nat.{ℕ}
use Rattle.spec.specs.Words.{Term, Subgoal, Rule}
use Rattle.spec.specs.Summaries.{Summaries, rewriting}
use Rattle.spec.specs.Answer.{Rewrites, Answer, FirstThere, FirstBack}
pub use Rattle.spec.specs.Result.{Answered, Right}
use Rattle.spec.proofs.Decided.Sound.{AllSafe}
use Rattle.spec.proofs.Decided.Rewritings.{answer, answer-is, answer-exists, answer-none, answer-unique}
use Rattle.spec.proofs.Decided.Witness.{there, there-is, there-unique, back, back_is, back-unique}
use Rattle.spec.proofs.Decided.WitnessExists.{maps-there, maps-back}

abbrev join_back : List (Subgoal (Term ℕ)) → List ℕ → Option (List ℕ) → Option Answered
join_back l t none = none
join_back l t (some b) = some record { rows = l; there = t; back = b }

abbrev join_there : List (Subgoal (Term ℕ)) → Option (List ℕ) → Option (List ℕ) → Option Answered
join_there l none b = none
join_there l (some t) b = join_back l t b

module _ (s : Summaries) (q : Rule ℕ) where
  abbrev witnessed : Option (List (Subgoal (Term ℕ))) → Option Answered
  witnessed none = none
  witnessed (some l) = join_there l (there s q (rewriting q l)) (back s q (rewriting q l))

  abbrev pub answered : Option Answered
  answered = witnessed (answer s q)

  pub right_unique : (a b : Answered) → Right s q a → Right s q b → a ≡ b
  right_unique a b f g = λ i. record { rows = same i; there = goes' i; back = returns' i }
    where
      same : a.rows ≡ b.rows
      same = answer-unique s q a.rows b.rows f.answers g.answers

      goes' : a.there ≡ b.there
      goes' = there-unique s q (rewriting q b.rows) a.there b.there (subst (λ l. FirstThere s q (rewriting q l) a.there) same f.goes) g.goes

      returns' : a.back ≡ b.back
      returns' = back-unique s q (rewriting q b.rows) a.back b.back (subst (λ l. FirstBack s q (rewriting q l) a.back) same f.returns) g.returns

  -- the answer's witness exists
  pub right-witness : (l : List (Subgoal (Term ℕ))) → Answer s q l → (a : Answered) × (a.rows ≡ l) × Right s q a
  right-witness l f =
      let t = maps-there s q (rewriting q l) f.holds.equivalent.there in
      let b = maps-back s q (rewriting q l) f.holds.equivalent.back in
      (record { rows = l; there = t.0; back = b.0 }, refl, record { answers = f; goes = t.1; returns = b.1 })

  module _ (safe : AllSafe s) where
    pub right-exists : (l : List (Subgoal (Term ℕ))) → Rewrites s q l → (a : Answered) × Right s q a
    right-exists l w = let m = answer-exists s q safe l w in let r = right-witness m.0 m.1 in (r.0, r.2)

    right-answered : (a : Answered) → Right s q a → answered ≡ some a
    right-answered a r =
        ap witnessed ((answer-is s q safe a.rows).1 r.answers)
        ∙ ap (λ o. join_there a.rows o (back s q (rewriting q a.rows))) ((there-is s q (rewriting q a.rows) a.there).1 r.goes)
        ∙ ap (join_back a.rows a.there) ((back_is s q (rewriting q a.rows) a.back).1 r.returns)

    answered-right : (a : Answered) → answered ≡ some a → Right s q a
    answered-right a e = go (answer s q) refl e
      where
        go : (o : Option (List (Subgoal (Term ℕ)))) → answer s q ≡ o → witnessed o ≡ some a → Right s q a
        go none p h = absurd (none-ne-some a h)
        go (some l) p h =
            let r = right-witness l ((answer-is s q safe l).0 p) in
            subst (Right s q) (some-injective r.0 a (sym (right-answered r.0 r.2) ∙ e)) r.2

    pub answered-is : (a : Answered) → (answered ≡ some a) ↔ Right s q a
    answered-is a = (answered-right a, right-answered a)

    pub answered-none : (answered ≡ none) ↔ ((l : List (Subgoal (Term ℕ))) → Rewrites s q l → ⊥)
    answered-none = (none-works, λ h. ap witnessed ((answer-none s q safe).1 h))
      where
        none-works : answered ≡ none → (l : List (Subgoal (Term ℕ))) → Rewrites s q l → ⊥
        none-works e l w = let r = right-exists l w in some-ne-none r.0 (sym (right-answered r.0 r.1) ∙ e)
