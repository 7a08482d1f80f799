-- The sheets by their values: one table under one statement, on which crate sheets builds the table from bytes. Answers are those of the specification;
-- witnesses not told there are worked out by hand.
use mathlib.Core.Path.{◌≡◌, refl}
use mathlib.Core.Option.{Option, some, none}
use mathlib.Core.List.{List, [], ◌∷◌, map}
use Prim.Native.Nat.{ℕ}
use lib.Dec.{T}
use Rattle.spec.specs.Words.{◌∈◌, Term, var, con, Subgoal, Rule}
use Rattle.spec.specs.Refresh.{admitted}
use Rattle.spec.specs.Answer.{Rewrites}
use Rattle.spec.specs.Book.{Book, admitted_of}
use Rattle.spec.proofs.Examples.Written.{x0, x1, x2, x3, rule, on, at1, book_a}
use Rattle.spec.proofs.Decided.Sound.{AllSafe}
use Rattle.spec.proofs.Lists.Tests.{every, every-sound}
use Rattle.spec.proofs.Lists.Gathered.{same_map}
use Rattle.spec.proofs.Decided.Safety.{all_safe, all_safe-sound}
use Rattle.spec.proofs.Decided.Answered.{Answered, Right, answered, answered-is, answered-none}

-- A book and what comes of it; none is refusal 10.
pub record ValueSheet : Type 0 where
  pub book : Book
  pub expected : Option Answered

abbrev pub computed : ValueSheet → Option Answered
computed s = answered (admitted_of s.book) s.book.question

abbrev pub accepts : Book → List (Subgoal (Term ℕ)) → List ℕ → List ℕ → ValueSheet
accepts b rows there back = record { book = b; expected = some record { rows = rows; there = there; back = back } }

abbrev pub refused10 : Book → ValueSheet
refused10 b = record { book = b; expected = none }

-- Source 000, example 4.1: a is relation 0, b is 1; X, Y, Z are 0, 1, 2.
abbrev example41 : Book
example41 = at1 (2 ∷ 2 ∷ []) (rule (x0 ∷ x1 ∷ []) (on 0 (x0 ∷ x2 ∷ []) ∷ on 0 (x2 ∷ x2 ∷ []) ∷ on 1 (x2 ∷ x1 ∷ []) ∷ []))
    (rule (x0 ∷ x1 ∷ []) (on 0 (x0 ∷ x1 ∷ []) ∷ on 0 (x1 ∷ x1 ∷ []) ∷ []) ∷ rule (x0 ∷ x1 ∷ []) (on 0 (x0 ∷ x2 ∷ []) ∷ on 1 (x0 ∷ x1 ∷ []) ∷ []) ∷ [])

-- Source 000, car-loc-part: car is 0, loc 1, part 2, anderson the constant 5; the question's M, C, S are 0, 1, 2.
abbrev carLocPart : List (Rule ℕ) → Book
carLocPart views = at1 (2 ∷ 2 ∷ 3 ∷ []) (rule (x2 ∷ x1 ∷ []) (on 0 (x0 ∷ con 5 ∷ []) ∷ on 1 (con 5 ∷ x1 ∷ []) ∷ on 2 (x2 ∷ x0 ∷ x1 ∷ []) ∷ [])) views

-- v1 and v5
abbrev carAndLoc : Rule ℕ
carAndLoc = rule (x0 ∷ x1 ∷ x2 ∷ []) (on 0 (x0 ∷ x1 ∷ []) ∷ on 1 (x1 ∷ x2 ∷ []) ∷ [])

-- v2, v3, v4
abbrev parts : Rule ℕ
parts = rule (x0 ∷ x1 ∷ x2 ∷ []) (on 2 (x0 ∷ x1 ∷ x2 ∷ []) ∷ [])

abbrev stores : Rule ℕ
stores = rule (x0 ∷ []) (on 0 (x1 ∷ con 5 ∷ []) ∷ on 1 (con 5 ∷ x2 ∷ []) ∷ on 2 (x0 ∷ x1 ∷ x2 ∷ []) ∷ [])

abbrev all_three : Rule ℕ
all_three = rule (x0 ∷ x1 ∷ x2 ∷ x3 ∷ []) (on 0 (x0 ∷ x1 ∷ []) ∷ on 1 (x1 ∷ x2 ∷ []) ∷ on 2 (x3 ∷ x0 ∷ x2 ∷ []) ∷ [])

abbrev path : Book
path = at1 (2 ∷ []) (rule (x0 ∷ x2 ∷ []) (on 0 (x0 ∷ x1 ∷ []) ∷ on 0 (x1 ∷ x2 ∷ []) ∷ [])) (rule (x0 ∷ x1 ∷ []) (on 0 (x0 ∷ x1 ∷ []) ∷ []) ∷ [])

abbrev star : Book
star = at1 (2 ∷ []) (rule (x0 ∷ []) (on 0 (x0 ∷ x1 ∷ []) ∷ on 0 (x0 ∷ x2 ∷ []) ∷ [])) (rule (x0 ∷ []) (on 0 (x0 ∷ x1 ∷ []) ∷ []) ∷ [])

-- () from 0(X0), 1(X0)
abbrev both : List (Rule ℕ) → Book
both = at1 (1 ∷ 1 ∷ []) (rule [] (on 0 (x0 ∷ []) ∷ on 1 (x0 ∷ []) ∷ []))

-- () from 0(X0) to 0(X7), eight subgoals: 64 rows
abbrev eight : Book
eight = at1 (1 ∷ []) (rule [] (map (λ n. on 0 (var n ∷ [])) (0 ∷ 1 ∷ 2 ∷ 3 ∷ 4 ∷ 5 ∷ 6 ∷ 7 ∷ []))) (rule (x0 ∷ x1 ∷ []) (on 0 (x0 ∷ []) ∷ on 0 (x1 ∷ []) ∷ []) ∷ [])

-- Sheets that were wrong.
abbrev wrong_a : Book
wrong_a = at1 (2 ∷ 2 ∷ []) (rule (x0 ∷ []) (on 0 (x0 ∷ x1 ∷ []) ∷ on 1 (x1 ∷ con 7 ∷ []) ∷ [])) (rule (x0 ∷ []) (on 0 (x0 ∷ x1 ∷ []) ∷ []) ∷ rule (x0 ∷ []) (on 1 (x0 ∷ con 7 ∷ []) ∷ []) ∷ [])

abbrev wrong_b : Book
wrong_b = at1 (1 ∷ 2 ∷ 1 ∷ []) (rule [] (on 0 (x0 ∷ []) ∷ on 1 (x0 ∷ x1 ∷ []) ∷ on 2 (x1 ∷ []) ∷ []))
    (rule (x0 ∷ []) (on 0 (x1 ∷ []) ∷ on 1 (x1 ∷ x0 ∷ []) ∷ []) ∷ rule (x0 ∷ []) (on 1 (x0 ∷ x1 ∷ []) ∷ on 2 (x1 ∷ []) ∷ []) ∷ [])

abbrev unary : ℕ → Subgoal (Term ℕ)
unary n = on n (x0 ∷ [])

abbrev wrong_c : Book
wrong_c = at1 (1 ∷ 1 ∷ 1 ∷ 1 ∷ 1 ∷ 1 ∷ []) (over (0 ∷ 1 ∷ 2 ∷ 3 ∷ 4 ∷ 5 ∷ [])) (over (0 ∷ 1 ∷ 2 ∷ 3 ∷ []) ∷ over (0 ∷ 1 ∷ 4 ∷ []) ∷ over (2 ∷ 3 ∷ 5 ∷ []) ∷ [])
  where
    over : List ℕ → Rule ℕ
    over ns = rule (x0 ∷ []) (map unary ns)

abbrev wrong_d : Book
wrong_d = at1 (2 ∷ []) (rule (x0 ∷ []) (on 0 (x0 ∷ con 0 ∷ []) ∷ [])) (rule (x0 ∷ []) (on 0 (x0 ∷ x0 ∷ []) ∷ []) ∷ [])

unfoldable pub sheets : List ValueSheet
sheets =
    accepts (book_a 4294967289) (on 1 (x0 ∷ x1 ∷ []) ∷ on 2 (x1 ∷ con 7 ∷ []) ∷ []) (1 ∷ 1 ∷ 2 ∷ 1 ∷ []) (1 ∷ 2 ∷ [])
    ∷ accepts (book_a 4294967290) (on 3 (x0 ∷ con 7 ∷ []) ∷ []) (1 ∷ 1 ∷ 1 ∷ 2 ∷ []) (1 ∷ 2 ∷ [])
    ∷ accepts example41 (on 1 (x0 ∷ x2 ∷ []) ∷ on 2 (x2 ∷ x1 ∷ []) ∷ []) (1 ∷ 1 ∷ 1 ∷ 2 ∷ 2 ∷ 2 ∷ []) (1 ∷ 2 ∷ 2 ∷ 3 ∷ [])
    ∷ accepts (carLocPart (carAndLoc ∷ parts ∷ stores ∷ all_three ∷ carAndLoc ∷ [])) (on 4 (x0 ∷ con 5 ∷ x1 ∷ x2 ∷ []) ∷ []) (1 ∷ 1 ∷ 1 ∷ 2 ∷ 1 ∷ 3 ∷ []) (1 ∷ 2 ∷ 3 ∷ [])
    ∷ accepts (carLocPart (carAndLoc ∷ parts ∷ stores ∷ carAndLoc ∷ [])) (on 1 (x0 ∷ con 5 ∷ x1 ∷ []) ∷ on 2 (x2 ∷ x0 ∷ x1 ∷ []) ∷ []) (1 ∷ 1 ∷ 1 ∷ 2 ∷ 2 ∷ 1 ∷ []) (1 ∷ 2 ∷ 3 ∷ [])
    ∷ refused10 (carLocPart (carAndLoc ∷ stores ∷ carAndLoc ∷ []))
    ∷ accepts path (on 1 (x0 ∷ x1 ∷ []) ∷ on 1 (x1 ∷ x2 ∷ []) ∷ []) (1 ∷ 1 ∷ 2 ∷ 1 ∷ []) (1 ∷ 2 ∷ [])
    ∷ accepts star (on 1 (x0 ∷ []) ∷ []) (1 ∷ 1 ∷ 1 ∷ 1 ∷ []) (1 ∷ [])
    ∷ accepts (both (rule (x0 ∷ []) (on 0 (x0 ∷ []) ∷ on 0 (x1 ∷ []) ∷ on 1 (x1 ∷ []) ∷ []) ∷ [])) (on 1 (x0 ∷ []) ∷ []) (1 ∷ 2 ∷ 1 ∷ 3 ∷ []) (1 ∷ 1 ∷ 2 ∷ [])
    -- each use hides a variable of its own
    ∷ refused10 (both (rule [] (on 0 (x0 ∷ []) ∷ []) ∷ rule [] (on 1 (x0 ∷ []) ∷ []) ∷ []))
    ∷ refused10 wrong_a
    ∷ refused10 wrong_b
    ∷ accepts wrong_c (on 2 (x0 ∷ []) ∷ on 3 (x0 ∷ []) ∷ []) (1 ∷ 1 ∷ 1 ∷ 2 ∷ 2 ∷ 1 ∷ 2 ∷ 2 ∷ 1 ∷ 3 ∷ 2 ∷ 3 ∷ []) (1 ∷ 2 ∷ 5 ∷ 3 ∷ 4 ∷ 6 ∷ [])
    ∷ refused10 wrong_d
    ∷ accepts eight (on 1 (x0 ∷ x0 ∷ []) ∷ []) (1 ∷ 1 ∷ 1 ∷ 1 ∷ 1 ∷ 1 ∷ 1 ∷ 1 ∷ 1 ∷ 1 ∷ 1 ∷ 1 ∷ 1 ∷ 1 ∷ 1 ∷ 1 ∷ []) (1 ∷ 1 ∷ [])
    -- no summaries
    ∷ refused10 (both [])
    ∷ []

pub proved : map computed sheets ≡ map (λ s. s.expected) sheets
unfolding sheets admitted
proved = refl

-- What that says of each sheet, in the words of the definitions.
abbrev pub Meant : Book → Option Answered → Type 0
Meant b none = (l : List (Subgoal (Term ℕ))) → Rewrites (admitted_of b) b.question l → ⊥
Meant b (some a) = Right (admitted_of b) b.question a

sheets-safe : T (every (λ s. all_safe (admitted_of s.book)) sheets)
unfolding sheets admitted
sheets-safe = tt

pub meant : (s : ValueSheet) → s ∈ sheets → Meant s.book s.expected
meant s m = go s.expected (same_map computed (λ s. s.expected) sheets proved s m)
  where
    sound : AllSafe (admitted_of s.book)
    sound = all_safe-sound (admitted_of s.book) (every-sound (λ s. all_safe (admitted_of s.book)) sheets sheets-safe s m)

    go : (o : Option Answered) → computed s ≡ o → Meant s.book o
    go none e = (answered-none (admitted_of s.book) s.book.question sound).0 e
    go (some a) e = (answered-is (admitted_of s.book) s.book.question sound a).0 e
