-- How rules and books are written in examples and sheets, and book A.
use mathlib.Core.List.{List, [], ◌∷◌, map}
use Prim.Native.Nat.{ℕ}
use Rattle.spec.specs.Words.{Term, var, con, Subgoal, Rule}
use Rattle.spec.specs.Book.{Summary, Book}

abbrev pub x0 : Term ℕ
x0 = var 0

abbrev pub x1 : Term ℕ
x1 = var 1

abbrev pub x2 : Term ℕ
x2 = var 2

abbrev pub x3 : Term ℕ
x3 = var 3

abbrev pub rule : List (Term ℕ) → List (Subgoal (Term ℕ)) → Rule ℕ
rule head body = record { head = head; body = body }

abbrev pub on : ℕ → List (Term ℕ) → Subgoal (Term ℕ)
on n ts = record { relation = n; terms = ts }

abbrev pub stamped : ℕ → Rule ℕ → Summary
stamped n r = record { stamp = n; rule = r }

-- "The need and all stamps are 1 unless said."
abbrev pub at1 : List ℕ → Rule ℕ → List (Rule ℕ) → Book
at1 arities q rules = record { arities = arities; need = 1; question = q; summaries = map (stamped 1) rules }

-- Book A, with the stamp of summary 3.
abbrev pub book_a : ℕ → Book
book_a third = record {
  arities = 2 ∷ 2 ∷ [];
  need = 4294967290;
  question = rule (x0 ∷ []) (on 0 (x0 ∷ x1 ∷ []) ∷ on 1 (x1 ∷ con 7 ∷ []) ∷ []);
  summaries =
      stamped 3 (rule (x0 ∷ x1 ∷ []) (on 0 (x0 ∷ x1 ∷ []) ∷ []))
      ∷ stamped 4294967295 (rule (x0 ∷ x1 ∷ []) (on 1 (x0 ∷ x1 ∷ []) ∷ []))
      ∷ stamped third (rule (x0 ∷ x2 ∷ []) (on 0 (x0 ∷ x1 ∷ []) ∷ on 1 (x1 ∷ x2 ∷ []) ∷ []))
      ∷ [];
}
