-- More admitted summaries: rows and rewritings of the fewer stay, and the answer has no more subgoals.
use mathlib.Core.Path.{◌≡◌, refl, sym, ap, ap₂, ◌∙◌, subst}
use mathlib.Core.Option.{some, none, none-ne-some}
use mathlib.Core.List.Memᴰ
use mathlib.Core.List.{List, [], ◌∷◌, ◌++◌, map}
use Prim.Native.Nat.{ℕ, zero, suc, ◌≤◌}
use lib.ListN.{length}
use Rattle.spec.specs.Words.{◌∈◌, Term, var, con, Subgoal, Rule, Facts, becomes, each, Mapping}
use Rattle.spec.specs.Summaries.{Summaries, summary, or_empty, definition, Yielded, kept, replaced, fresh, uses, joined, expansion, rewriting}
use Rattle.spec.specs.Answer.{Rewrites, Answer}
use Rattle.spec.specs.Demand.{OverAdmitted}
use Rattle.containment.proofs.Normal.{answer-least}

-- Each summary admitted in s is admitted in t, under its number.
abbrev pub AdmitsMore : Summaries → Summaries → Type 0
AdmitsMore s t = (n : ℕ) (r : Rule ℕ) → summary s n ≡ some r → summary t n ≡ some r

-- "put any sound summary at the end"
pub append-extends : (s t : Summaries) → AdmitsMore s (s ++ t)
append-extends [] t n r e = absurd (none-ne-some r e)
append-extends (a ∷ s) t zero r e = absurd (none-ne-some r e)
append-extends (a ∷ s) t (suc zero) r e = e
append-extends (a ∷ s) t (suc (suc n)) r e = append-extends s t (suc n) r e

-- A summary that is left out at the end is none.
pub append-none : (s : Summaries) → AdmitsMore (s ++ (none ∷ [])) s
append-none [] zero r e = absurd (none-ne-some r e)
append-none [] (suc zero) r e = absurd (none-ne-some r e)
append-none [] (suc (suc n)) r e = absurd (none-ne-some r e)
append-none (a ∷ s) zero r e = absurd (none-ne-some r e)
append-none (a ∷ s) (suc zero) r e = e
append-none (a ∷ s) (suc (suc n)) r e = append-none s (suc n) r e

module _ (s t : Summaries) (more : AdmitsMore s t) where
  pub extend-yielded : {A : Type 0} {k : ℕ → A} {d : Facts A} (f : Subgoal A) → Yielded k s d f → Yielded k t d f
  extend-yielded f y = record { rule = y.rule; admitted = more f.relation y.rule y.admitted; yields = y.yields }

  uses-same : {X : Type 0} (u : ℕ) (gs : List (Subgoal (Term X))) → ((g : Subgoal (Term X)) → g ∈ gs → definition s g.relation ≡ definition t g.relation) → uses s u gs ≡ uses t u gs
  uses-same u [] same = refl
  uses-same u (g ∷ gs) same =
      ap₂ ◌∷◌ (ap (λ (d : Rule ℕ). map (each (becomes con (replaced d.head (map (becomes con kept) g.terms) (λ x. var (fresh u x))))) d.body) (same g (Memᴰ.head refl)))
      (uses-same (suc u) gs (λ b m. same b (Memᴰ.tail m)))

  -- Over admitted summaries the uses, and so the expansion, are the same.
  pub extend-uses : {X : Type 0} (u : ℕ) (gs : List (Subgoal (Term X))) → ((g : Subgoal (Term X)) → g ∈ gs → (r : Rule ℕ) × (summary s g.relation ≡ some r)) → uses s u gs ≡ uses t u gs
  extend-uses u gs over = uses-same u gs (λ g m. let a = over g m in ap or_empty a.1 ∙ sym (ap or_empty (more g.relation a.0 a.1)))

  pub extend-expansion : {X : Type 0} (r : Rule X) → OverAdmitted s r → expansion s r ≡ expansion t r
  extend-expansion r over = λ i. record { head = map (becomes con kept) r.head; body = joined (extend-uses 0 r.body over i) }

  pub extend-rewrites : (q : Rule ℕ) (l : List (Subgoal (Term ℕ))) → Rewrites s q l → Rewrites t q l
  extend-rewrites q l w = record {
    rows = λ g m. extend-yielded g (w.rows g m);
    ascending = w.ascending;
    equivalent = record { there = subst (Mapping q) same w.equivalent.there; back = subst (λ z. Mapping z q) same w.equivalent.back };
  }
    where
      same : expansion s (rewriting q l) ≡ expansion t (rewriting q l)
      same = extend-expansion (rewriting q l) (λ g m. ((w.rows g m).rule, (w.rows g m).admitted))

  -- The answer of more summaries has no more subgoals.
  pub extend-shorter : (q : Rule ℕ) (l m : List (Subgoal (Term ℕ))) → Answer s q l → Answer t q m → length m ≤ length l
  extend-shorter q l m a b = answer-least t q m l b (extend-rewrites q l a.holds)
