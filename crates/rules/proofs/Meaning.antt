-- What the notes mean: the variables of terms, and whether terms are distinct variables.
use mathlib.Core.Path.{◌≡◌, refl, ap, subst}
use mathlib.Core.Logic.{◌⊎◌, inl, inr, ⊎_elim, ◌↔◌}
use mathlib.Core.Bool.{Bool, true, false, ◌&&◌, not}
use mathlib.Core.List.Memᴰ
use mathlib.Core.List.{List, [], ◌∷◌}
use Prim.Native.Nat.{ℕ}
use Rattle.spec.specs.Words.{◌∈◌, Term, var, con, Subgoal, Rule, Safe, DistinctVariables}
use Rattle.bits.specs.Sets.{Has, has, with}
use Rattle.bits.proofs.Laws.{has-none, has-true, true-has, with-new, with-old, with_cases}
use Rattle.rules.specs.declared.subgoals.Marks.{Marks}
use Rattle.rules.specs.Marked.{none, mark, marks, of_goal, goal_marks}
use Rattle.spec.proofs.Lists.Tests.{and-true}

-- one term
mark-keeps : (m : Marks) (t : Term ℕ) (x : ℕ) → Has m.vars x → Has (mark m t).vars x
unfolding mark
mark-keeps m (var v) x h = with-old m.vars v x h
mark-keeps m (con c) x h = h

mark-notes : (m : Marks) (x : ℕ) → Has (mark m (var x)).vars x
unfolding mark
mark-notes m x = with-new m.vars x

mark-cases : (m : Marks) (t : Term ℕ) (x : ℕ) → Has (mark m t).vars x → Has m.vars x ⊎ (var x ≡ t)
unfolding mark
mark-cases m (var v) x h = ⊎_elim (λ a. inl a) (λ e. inr (ap var e)) (with_cases m.vars v x h)
mark-cases m (con c) x h = inl h

-- terms: their variables
pub marks-keep : (ts : List (Term ℕ)) (m : Marks) (x : ℕ) → Has m.vars x → Has (marks m ts).vars x
marks-keep [] m x h = h
marks-keep (t ∷ ts) m x h = marks-keep ts (mark m t) x (mark-keeps m t x h)

pub marks-note : (ts : List (Term ℕ)) (m : Marks) (x : ℕ) → var x ∈ ts → Has (marks m ts).vars x
marks-note (t ∷ ts) m x (Memᴰ.head e) = marks-keep ts (mark m t) x (subst (λ s. Has (mark m s).vars x) e (mark-notes m x))
marks-note (t ∷ ts) m x (Memᴰ.tail i) = marks-note ts (mark m t) x i
marks-note [] m x x3 = elim x3 [ ]

pub marks-cases : (ts : List (Term ℕ)) (m : Marks) (x : ℕ) → Has (marks m ts).vars x → Has m.vars x ⊎ (var x ∈ ts)
marks-cases [] m x h = inl h
marks-cases (t ∷ ts) m x h = ⊎_elim (λ a. ⊎_elim (λ b. inl b) (λ e. inr (Memᴰ.head e)) (mark-cases m t x a)) (λ i. inr (Memᴰ.tail i)) (marks-cases ts (mark m t) x h)

-- subgoals: their variables
abbrev VariableIn : ℕ → List (Subgoal (Term ℕ)) → Type 0
VariableIn x gs = (g : Subgoal (Term ℕ)) × (g ∈ gs) × (var x ∈ g.terms)

goals-keep : (gs : List (Subgoal (Term ℕ))) (m : Marks) (x : ℕ) → Has m.vars x → Has (goal_marks m gs).vars x
goals-keep [] m x h = h
goals-keep (g ∷ gs) m x h = goals-keep gs (of_goal m g) x (marks-keep g.terms m x h)

pub goals-note : (gs : List (Subgoal (Term ℕ))) (m : Marks) (x : ℕ) → VariableIn x gs → Has (goal_marks m gs).vars x
goals-note [] m x w = absurd (Memᴰ.not-nil w.1)
goals-note (g ∷ gs) m x w = by w.1 (λ i. goals-note gs (of_goal m g) x (w.0, i, w.2))
  where
    by : w.0 ∈ (g ∷ gs) → (w.0 ∈ gs → Has (goal_marks (of_goal m g) gs).vars x) → Has (goal_marks m (g ∷ gs)).vars x
    by (Memᴰ.head e) ih = goals-keep gs (of_goal m g) x (marks-note g.terms m x (subst (λ z. var x ∈ z.terms) e w.2))
    by (Memᴰ.tail i) ih = ih i

pub goals-cases : (gs : List (Subgoal (Term ℕ))) (m : Marks) (x : ℕ) → Has (goal_marks m gs).vars x → Has m.vars x ⊎ VariableIn x gs
goals-cases [] m x h = inl h
goals-cases (g ∷ gs) m x h =
    ⊎_elim
    (λ a. ⊎_elim (λ b. inl b) (λ i. inr (g, Memᴰ.head refl, i)) (marks-cases g.terms m x a))
    (λ w. inr (w.0, Memᴰ.tail w.1, w.2))
    (goals-cases gs (of_goal m g) x h)

-- "safe if every head variable stands in the body": the head's variables lie within the body's
pub safe-within : (r : Rule ℕ) → Safe r ↔ ((x : ℕ) → Has (marks none r.head).vars x → Has (goal_marks none r.body).vars x)
safe-within r = (
  (λ s x h. ⊎_elim (λ a. absurd (has-none x a)) (λ i. goals-note r.body none x (s x i)) (marks-cases r.head none x h)),
  (λ f x i. ⊎_elim (λ a. absurd (has-none x a)) (λ w. w) (goals-cases r.body none x (f x (marks-note r.head none x i)))),
)

-- distinct variables
record Plain (m : Marks) (ts : List (Term ℕ)) : Type 0 where
  so_far : m.plain ≡ true
  distinct : DistinctVariables ts
  new : (x : ℕ) → var x ∈ ts → Has m.vars x → ⊥

not-has : (set x : ℕ) → has set x ≡ false → Has set x → ⊥
not-has set x e h = let t = true-has set x h in cc

has-false : (set x : ℕ) → (Has set x → ⊥) → has set x ≡ false
has-false set x n = go (has set x) refl
  where
    go : (b : Bool) → has set x ≡ b → b ≡ false
    go true e = absurd (n (has-true set x e))
    go false e = refl

plain-from : (ts : List (Term ℕ)) (m : Marks) → (marks m ts).plain ≡ true → Plain m ts
unfolding mark
plain-from [] m e = record { so_far = e; distinct = tt; new = λ x i. absurd (Memᴰ.not-nil i) }
plain-from (con c ∷ ts) m e = let p = (plain-from ts (mark m (con c)) e).so_far in cc
plain-from (var v ∷ ts) m e = by (plain-from ts (mark m (var v)) e)
  where
    by : Plain (mark m (var v)) ts → Plain m (var v ∷ ts)
    by p = record { so_far = s.1; distinct = (λ i. p.new v i (with-new m.vars v), p.distinct); new = fresh }
      where
        s : (has m.vars v ≡ false) × (m.plain ≡ true)
        s = and-true (has m.vars v) m.plain p.so_far

        fresh : (x : ℕ) → var x ∈ (var v ∷ ts) → Has m.vars x → ⊥
        fresh x (Memᴰ.head q) h = let xv : x ≡ v = cc in not-has m.vars v s.0 (subst (Has m.vars) xv h)
        fresh x (Memᴰ.tail i) h = p.new x i (with-old m.vars v x h)

plain-to : (ts : List (Term ℕ)) (m : Marks) → Plain m ts → (marks m ts).plain ≡ true
unfolding mark
plain-to [] m p = p.so_far
plain-to (con c ∷ ts) m p = absurd p.distinct
plain-to (var v ∷ ts) m p = plain-to ts (mark m (var v)) record { so_far = joined; distinct = p.distinct.1; new = fresh }
  where
    joined : (not (has m.vars v) && m.plain) ≡ true
    joined = rw (has-false m.vars v (p.new v (Memᴰ.head refl))) p.so_far

    fresh : (x : ℕ) → var x ∈ ts → Has (with m.vars v) x → ⊥
    fresh x i h = ⊎_elim (λ a. p.new x (Memᴰ.tail i) a) (λ e. p.distinct.0 (subst (λ y. var y ∈ ts) e i)) (with_cases m.vars v x h)

-- "distinct variables": what is noted of the head
pub plain-head : (ts : List (Term ℕ)) → ((marks none ts).plain ≡ true) ↔ DistinctVariables ts
plain-head ts = (λ e. (plain-from ts none e).distinct, λ d. plain-to ts none record { so_far = refl; distinct = d; new = λ x i h. has-none x h })
