-- Two books, as values and as bytes, on which the checker is tried.
use mathlib.Core.List.{List, [], ◌∷◌}
use Prim.Native.Nat.{ℕ}
use Rattle.spec.specs.Words.{con}
use Rattle.spec.specs.Book.{Book}
use Rattle.spec.proofs.Examples.Written.{x0, x1, x2, rule, on, stamped}

-- (X0) from 0(X0,X1), 0(X0,X2); summary 1: (A) from 0(A,B); summary 2, of this stamp: (A,B) from 0(A,B). The need is 1.
abbrev pub star : ℕ → Book
star stamp = record {
  arities = 2 ∷ [];
  need = 1;
  question = rule (x0 ∷ []) (on 0 (x0 ∷ x1 ∷ []) ∷ on 0 (x0 ∷ x2 ∷ []) ∷ []);
  summaries = stamped 1 (rule (x0 ∷ []) (on 0 (x0 ∷ x1 ∷ []) ∷ [])) ∷ stamped stamp (rule (x0 ∷ x1 ∷ []) (on 0 (x0 ∷ x1 ∷ []) ∷ [])) ∷ [];
}

-- its 121 bytes
abbrev pub star_bytes : ℕ → List ℕ
star_bytes stamp =
    2 ∷ 0
    ∷ 50 ∷ 0 ∷ 0 ∷ 0 ∷ 1 ∷ 0 ∷ 0 ∷ 0 ∷ 0 ∷ 0 ∷ 0 ∷ 0
    ∷ 51 ∷ 0 ∷ 0 ∷ 0 ∷ 29 ∷ 0 ∷ 0 ∷ 0 ∷ 1 ∷ 0 ∷ 0 ∷ 0
    ∷ 80 ∷ 0 ∷ 0 ∷ 0 ∷ 18 ∷ 0 ∷ 0 ∷ 0 ∷ 1 ∷ 0 ∷ 0 ∷ 0
    ∷ 98 ∷ 0 ∷ 0 ∷ 0 ∷ 23 ∷ 0 ∷ 0 ∷ 0 ∷ stamp ∷ 0 ∷ 0 ∷ 0
    ∷ 2
    ∷ 1 ∷ 2 ∷ 0 ∷ 0 ∷ 0 ∷ 0 ∷ 0
    ∷ 0 ∷ 0 ∷ 0 ∷ 0 ∷ 0 ∷ 0 ∷ 0 ∷ 1 ∷ 0 ∷ 0 ∷ 0
    ∷ 0 ∷ 0 ∷ 0 ∷ 0 ∷ 0 ∷ 0 ∷ 0 ∷ 2 ∷ 0 ∷ 0 ∷ 0
    ∷ 1 ∷ 1 ∷ 0 ∷ 0 ∷ 0 ∷ 0 ∷ 0
    ∷ 0 ∷ 0 ∷ 0 ∷ 0 ∷ 0 ∷ 0 ∷ 0 ∷ 1 ∷ 0 ∷ 0 ∷ 0
    ∷ 2 ∷ 1 ∷ 0 ∷ 0 ∷ 0 ∷ 0 ∷ 0 ∷ 0 ∷ 1 ∷ 0 ∷ 0 ∷ 0
    ∷ 0 ∷ 0 ∷ 0 ∷ 0 ∷ 0 ∷ 0 ∷ 0 ∷ 1 ∷ 0 ∷ 0 ∷ 0
    ∷ []

-- (X0) from 0(X0,0), with constant 0; summary 1: (A) from 0(A,A); summary 2: (A,B) from 0(A,B)
abbrev pub zeros : Book
zeros = record {
  arities = 2 ∷ [];
  need = 1;
  question = rule (x0 ∷ []) (on 0 (x0 ∷ con 0 ∷ []) ∷ []);
  summaries = stamped 1 (rule (x0 ∷ []) (on 0 (x0 ∷ x0 ∷ []) ∷ [])) ∷ stamped 1 (rule (x0 ∷ x1 ∷ []) (on 0 (x0 ∷ x1 ∷ []) ∷ [])) ∷ [];
}

-- its 110 bytes
abbrev pub zeros_bytes : List ℕ
zeros_bytes =
    2 ∷ 0
    ∷ 50 ∷ 0 ∷ 0 ∷ 0 ∷ 1 ∷ 0 ∷ 0 ∷ 0 ∷ 0 ∷ 0 ∷ 0 ∷ 0
    ∷ 51 ∷ 0 ∷ 0 ∷ 0 ∷ 18 ∷ 0 ∷ 0 ∷ 0 ∷ 1 ∷ 0 ∷ 0 ∷ 0
    ∷ 69 ∷ 0 ∷ 0 ∷ 0 ∷ 18 ∷ 0 ∷ 0 ∷ 0 ∷ 1 ∷ 0 ∷ 0 ∷ 0
    ∷ 87 ∷ 0 ∷ 0 ∷ 0 ∷ 23 ∷ 0 ∷ 0 ∷ 0 ∷ 1 ∷ 0 ∷ 0 ∷ 0
    ∷ 2
    ∷ 1 ∷ 1 ∷ 0 ∷ 0 ∷ 0 ∷ 0 ∷ 0 ∷ 0 ∷ 0 ∷ 0 ∷ 0 ∷ 0 ∷ 0 ∷ 1 ∷ 0 ∷ 0 ∷ 0 ∷ 0
    ∷ 1 ∷ 1 ∷ 0 ∷ 0 ∷ 0 ∷ 0 ∷ 0 ∷ 0 ∷ 0 ∷ 0 ∷ 0 ∷ 0 ∷ 0 ∷ 0 ∷ 0 ∷ 0 ∷ 0 ∷ 0
    ∷ 2 ∷ 1 ∷ 0 ∷ 0 ∷ 0 ∷ 0 ∷ 0 ∷ 0 ∷ 1 ∷ 0 ∷ 0 ∷ 0 ∷ 0 ∷ 0 ∷ 0 ∷ 0 ∷ 0 ∷ 0 ∷ 0 ∷ 1 ∷ 0 ∷ 0 ∷ 0
    ∷ []
