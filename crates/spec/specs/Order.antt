-- The orders of the specification: of terms, rows, lists of rows; and the first of something by an order.
use Rattle.std.specs.Prelude.{◌≡◌, ◌⊎◌, List, [], ◌∷◌, ℕ, ◌<◌, length}
use Rattle.spec.specs.Words.{Term, var, con, Subgoal}

-- "Variables sort before constants, each by number."
abbrev pub TermBefore : Term ℕ → Term ℕ → Type 0
TermBefore (var x) (var y) = x < y
TermBefore (var x) (con c) = Unit {0}
TermBefore (con c) (var y) = ⊥
TermBefore (con c) (con d) = c < d

-- One list before another: at the first place where they differ the element is before, or the list ends there.
abbrev pub ListBefore : {A : Type 0} → (A → A → Type 0) → List A → List A → Type 0
ListBefore before [] [] = ⊥
ListBefore before [] (b ∷ m) = Unit {0}
ListBefore before (a ∷ l) [] = ⊥
ListBefore before (a ∷ l) (b ∷ m) = before a b ⊎ ((a ≡ b) × ListBefore before l m)

-- "Rows sort by summary number, then term by term."
abbrev pub RowBefore : Subgoal (Term ℕ) → Subgoal (Term ℕ) → Type 0
RowBefore g h = (g.relation < h.relation) ⊎ ((g.relation ≡ h.relation) × ListBefore TermBefore g.terms h.terms)

-- "each list ascending", its rows distinct: each row before the next
abbrev pub Ascending : List (Subgoal (Term ℕ)) → Type 0
Ascending [] = Unit {0}
Ascending (g ∷ []) = Unit {0}
Ascending (g ∷ h ∷ l) = RowBefore g h × Ascending (h ∷ l)

-- The shorter list first; "lists compared row by row" where they are as long.
abbrev pub ShorterFirst : List (Subgoal (Term ℕ)) → List (Subgoal (Term ℕ)) → Type 0
ShorterFirst l m = (length l < length m) ⊎ ((length l ≡ length m) × ListBefore RowBefore l m)

-- The first, by an order, of those with a property.
pub record First {A : Type 0} (Ok : A → Type 0) (Before : A → A → Type 0) (a : A) : Type 0 where
  pub holds : Ok a
  pub least : (b : A) → Ok b → (a ≡ b) ⊎ Before a b
