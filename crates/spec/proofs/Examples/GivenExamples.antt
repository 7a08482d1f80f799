-- What a small book of bytes is given, byte by byte, and one that is refused with 10; what stays in an area.
use mathlib.Core.Path.{◌≡◌, refl}
use mathlib.Core.List.{List, [], ◌∷◌}
use Prim.Native.Nat.{ℕ}
use native.Mathlib.Omega.{arith}
use Rattle.spec.specs.Refresh.{admitted}
use Rattle.spec.specs.Book.{Book, admitted_of}
use Rattle.spec.specs.Result.{Answered}
use Rattle.spec.specs.BookLayout.{entries, contents_end, book_bytes}
use Rattle.spec.specs.Refusals.{of_book}
use Rattle.spec.specs.Table.{Fault9, RewriterRefusal, ten}
use Rattle.spec.specs.Given.{Given, at_front, answer_bytes, witness_bytes}
use Rattle.spec.proofs.Decided.RowCount.{rows-within}
use Rattle.spec.proofs.Decided.Safety.{all_safe-sound}
use Rattle.spec.proofs.Decided.Answered.{answered-is, answered-none}
use Rattle.spec.proofs.Examples.Written.{x0, x1, rule, on, stamped}
use Rattle.spec.proofs.Bytes.SoundTest.{book-sound}
use Rattle.spec.proofs.Examples.TableExamples.{room, short-answer}

-- "bytes past them stay"
rest-stays : at_front (1 ∷ 2 ∷ []) (7 ∷ 8 ∷ 9 ∷ 10 ∷ []) ≡ 1 ∷ 2 ∷ 9 ∷ 10 ∷ []
rest-stays = refl

-- (X1) from 0(X0), 0(X1); summary (A) from 0(A), of this stamp. The need is 5.
abbrev later : ℕ → Book
later stamp = record { arities = 1 ∷ []; need = 5; question = rule (x1 ∷ []) (on 0 (x0 ∷ []) ∷ on 0 (x1 ∷ []) ∷ []); summaries = stamped stamp (rule (x0 ∷ []) (on 0 (x0 ∷ []) ∷ [])) ∷ [] }

-- its 71 bytes
abbrev later_bytes : ℕ → List ℕ
later_bytes stamp =
    1 ∷ 0
    ∷ 38 ∷ 0 ∷ 0 ∷ 0 ∷ 1 ∷ 0 ∷ 0 ∷ 0 ∷ 0 ∷ 0 ∷ 0 ∷ 0
    ∷ 39 ∷ 0 ∷ 0 ∷ 0 ∷ 19 ∷ 0 ∷ 0 ∷ 0 ∷ 5 ∷ 0 ∷ 0 ∷ 0
    ∷ 58 ∷ 0 ∷ 0 ∷ 0 ∷ 13 ∷ 0 ∷ 0 ∷ 0 ∷ stamp ∷ 0 ∷ 0 ∷ 0
    ∷ 1
    ∷ 1 ∷ 2 ∷ 0 ∷ 1 ∷ 0 ∷ 0 ∷ 0 ∷ 0 ∷ 0 ∷ 0 ∷ 0 ∷ 0 ∷ 0 ∷ 0 ∷ 0 ∷ 1 ∷ 0 ∷ 0 ∷ 0
    ∷ 1 ∷ 1 ∷ 0 ∷ 0 ∷ 0 ∷ 0 ∷ 0 ∷ 0 ∷ 0 ∷ 0 ∷ 0 ∷ 0 ∷ 0
    ∷ []

few-rows : Fault9 (admitted_of (later 5)) (later 5).question → ⊥
unfolding admitted
few-rows f = omega (arith, f.many, rows-within (admitted_of (later 5)) (later 5).question (all_safe-sound (admitted_of (later 5)) tt) f.rows f.each f.ascending)

no_rows : Fault9 (admitted_of (later 4)) (later 4).question → ⊥
unfolding admitted
no_rows f = omega (arith, f.many, rows-within (admitted_of (later 4)) (later 4).question (all_safe-sound (admitted_of (later 4)) tt) f.rows f.each f.ascending)

-- answer 1(X1), there 1.1 1.1, back 2
abbrev result : Answered
result = record { rows = on 1 (x1 ∷ []) ∷ []; there = 1 ∷ 1 ∷ 1 ∷ 1 ∷ []; back = 2 ∷ [] }

given : Given (later_bytes 5) 534 120
unfolding admitted book_bytes contents_end entries
given = record {
  room = room;
  value = later 5;
  sound = book-sound (later_bytes 5) (later 5) tt;
  few = few-rows;
  result = result;
  right = (answered-is (admitted_of (later 5)) (later 5).question (all_safe-sound (admitted_of (later 5)) tt) result).0 refl;
}

-- not where the answer area is a byte too short
not-given : Given (later_bytes 5) 533 120 → ⊥
not-given g = g.room short-answer

-- "written to the answer area as a rule, with a summary number in each subgoal where a relation number stood": (X1) from 1(X1)
answer-written : answer_bytes (later 5).question result ≡ 1 ∷ 1 ∷ 0 ∷ 1 ∷ 0 ∷ 0 ∷ 0 ∷ 1 ∷ 0 ∷ 1 ∷ 0 ∷ 0 ∷ 0 ∷ []
answer-written = refl

-- the way there first, then the way back
witness-written : witness_bytes result ≡ 1 ∷ 1 ∷ 1 ∷ 1 ∷ 2 ∷ []
witness-written = refl

-- The summary left out: nothing is left to rewrite with.
refused-ten : RewriterRefusal (later_bytes 4) 534 120 (of_book 10)
unfolding admitted book_bytes contents_end entries
refused-ten = ten room (later 4) (book-sound (later_bytes 4) (later 4) tt) no_rows ((answered-none (admitted_of (later 4)) (later 4).question (all_safe-sound (admitted_of (later 4)) tt)).0 refl)
