-- The admitted summaries, their rows on a question, what they hold, and the expansion of a list of their subgoals.
use Rattle.std.specs.Prelude.{◌≡◌, ◌↔◌, cond, List, [], ◌∷◌, ◌++◌, map, ℕ, zero, suc, eqb, length}
use Rattle.std.proofs.Math.Option.{Option, some, none}
use Rattle.spec.specs.Words.{◌∈◌, Term, var, con, Subgoal, Rule, Facts, Listed, becomes, each, Yields, Mapping, itself}

-- What stands at a place of a list, counted from 1.
abbrev pub place : {A : Type 0} → List A → ℕ → Option A
place [] n = none
place (a ∷ l) zero = none
place (a ∷ l) (suc zero) = some a
place (a ∷ l) (suc (suc n)) = place l (suc n)

-- "Summaries are numbered from 1." A summary that is left out is `none`: it has no say.
abbrev pub Summaries : Type 0
Summaries = List (Option (Rule ℕ))

abbrev pub or_none : Option (Option (Rule ℕ)) → Option (Rule ℕ)
or_none none = none
or_none (some o) = o

-- The admitted summary of that number.
abbrev pub summary : Summaries → ℕ → Option (Rule ℕ)
summary s n = or_none (place s n)

abbrev pub or_empty : Option (Rule ℕ) → Rule ℕ
or_empty none = record { head = []; body = [] }
or_empty (some r) = r

abbrev pub definition : Summaries → ℕ → Rule ℕ
definition s n = or_empty (summary s n)

-- The admitted summaries over the facts d: the rows that their definitions yield.
pub record Yielded {A : Type 0} (k : ℕ → A) (s : Summaries) (d : Facts A) (f : Subgoal A) : Type 0 where
  pub rule : Rule ℕ
  pub admitted : summary s f.relation ≡ some rule
  pub yields : Yields k rule d f.terms

-- "each admitted summary holds just what its definition yields"
abbrev pub HoldJust : Summaries → Facts ℕ → Facts ℕ → Type 0
HoldJust s d held = (f : Subgoal ℕ) (r : Rule ℕ) → summary s f.relation ≡ some r → held f ↔ Yields itself r d f.terms

-- "A summary row is the head of an admitted summary after sending its variables to terms of the question so that each of its subgoals
-- becomes a subgoal of the question, constants kept."
abbrev pub SummaryRow : Summaries → Rule ℕ → Subgoal (Term ℕ) → Type 0
SummaryRow s q g = Yielded con s (Listed q.body) g

-- The variables of an expansion: those of the list, and each use's own.
pub data Own (X : Type 0) : Type 0 where
  old : X → Own X
  fresh : ℕ → ℕ → Own X

-- What stands for a variable: the term beside it in the head's list, or else what `other` says.
abbrev pub replaced : {A : Type 0} → List (Term ℕ) → List A → (ℕ → A) → ℕ → A
replaced [] ts other x = other x
replaced (s ∷ ss) [] other x = other x
replaced (var y ∷ ss) (t ∷ ts) other x = cond (eqb y x) t (replaced ss ts other x)
replaced (con c ∷ ss) (t ∷ ts) other x = replaced ss ts other x

abbrev pub kept : {X : Type 0} → X → Term (Own X)
kept x = var (old x)

-- "its head variables replaced by the given terms and its other variables fresh for each use"
abbrev pub in_use : {X : Type 0} → Summaries → ℕ → Subgoal (Term X) → ℕ → Term (Own X)
in_use s u g = replaced (definition s g.relation).head (map (becomes con kept) g.terms) (λ x. var (fresh u x))

-- One use: the summary's body in place of the subgoal.
abbrev pub in_place : {X : Type 0} → Summaries → ℕ → Subgoal (Term X) → List (Subgoal (Term (Own X)))
in_place s u g = map (each (becomes con (in_use s u g))) (definition s g.relation).body

-- "puts each summary's body in place": the uses, numbered from u on, one after the other
abbrev pub uses : {X : Type 0} → Summaries → ℕ → List (Subgoal (Term X)) → List (List (Subgoal (Term (Own X))))
uses s u [] = []
uses s u (g ∷ gs) = in_place s u g ∷ uses s (suc u) gs

abbrev pub joined : {A : Type 0} → List (List A) → List A
joined [] = []
joined (l ∷ ls) = l ++ joined ls

abbrev pub expansion : {X : Type 0} → Summaries → Rule X → Rule (Own X)
expansion s r = record { head = map (becomes con kept) r.head; body = joined (uses s 0 r.body) }

-- A subgoal over an admitted summary, with as many terms as the summary's head.
pub record Over {A : Type 0} (s : Summaries) (g : Subgoal A) : Type 0 where
  pub rule : Rule ℕ
  pub admitted : summary s g.relation ≡ some rule
  pub long : length g.terms ≡ length rule.head

abbrev pub OverAll : {X : Type 0} → Summaries → Rule X → Type 0
OverAll {X} s r = (g : Subgoal (Term X)) → g ∈ r.body → Over s g

-- "A rewriting has the question's head; it is equivalent if a containment mapping goes from question to expansion and another back."
pub record Equivalent {X : Type 0} (s : Summaries) (q : Rule ℕ) (r : Rule X) : Type 0 where
  pub there : Mapping q (expansion s r)
  pub back : Mapping (expansion s r) q

abbrev pub rewriting : Rule ℕ → List (Subgoal (Term ℕ)) → Rule ℕ
rewriting q l = record { head = q.head; body = l }
