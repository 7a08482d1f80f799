-- Rows 1 and 9 of the refusal table at their bounds: books of bytes, settled by computation.
use mathlib.Core.Path.{◌≡◌, refl, subst}
use mathlib.Core.Logic.{inl, inr, ⊎_elim}
use mathlib.Core.List.{List, [], ◌∷◌}
use Prim.Native.Nat.{ℕ}
use native.Mathlib.Omega.{arith}
use lib.ListN.{length}
use lib.Dec.{lit<}
use Rattle.spec.specs.Words.{var}
use Rattle.spec.specs.Refresh.{admitted}
use Rattle.spec.specs.Book.{Book, admitted_of}
use Rattle.spec.specs.BookLayout.{entries, contents_end, book_bytes, SoundBook}
use Rattle.spec.specs.Refusals.{of_book, two}
use Rattle.spec.specs.Table.{Fault1, Fault9, RewriterRefusal, one, read, nine}
use Rattle.spec.specs.Given.{Given}
use Rattle.spec.proofs.Decided.Rows.{all_rows, all_rows-sound, all_rows-ascending}
use Rattle.spec.proofs.Decided.RowCount.{rows-within}
use Rattle.spec.proofs.Decided.Safety.{all_safe-sound}
use Rattle.spec.proofs.Examples.Written.{x0, x1, rule, on, stamped}
use Rattle.spec.proofs.Bytes.BookUnique.{book-unique}
use Rattle.spec.proofs.Bytes.Refused.{sound-unrefused}
use Rattle.spec.proofs.Bytes.SoundTest.{book-sound}

-- "answer area below 534 bytes, or witness area below 120"
pub room : Fault1 534 120 → ⊥
room = ⊎_elim (λ h. omega arith) (λ h. omega arith)

pub short-answer : Fault1 533 120
short-answer = inl (lit< tt)

short-witness : Fault1 534 119
short-witness = inr (lit< tt)

-- "Order: 1": before a book of one byte is refused with 2
room-first : RewriterRefusal (0 ∷ []) 533 120 (of_book 1)
room-first = one short-answer

then-the-book : RewriterRefusal (0 ∷ []) 534 120 (of_book 2)
then-the-book = read room (two (inl (lit< tt)))

not-the-book : RewriterRefusal (0 ∷ []) 533 120 (of_book 2) → ⊥
not-the-book (read room r) = room short-answer

-- () from 0(X0) to 0(X7), 1(X0); summary 1, (A,B) from 0(A), 0(B), has 64 rows, and summary 2, () from 1(A), has one more if its stamp admits it
abbrev nine_subgoals : ℕ → Book
nine_subgoals stamp = record {
  arities = 1 ∷ 1 ∷ [];
  need = 1;
  question = rule [] (on 0 (x0 ∷ []) ∷ on 0 (x1 ∷ []) ∷ on 0 (var 2 ∷ []) ∷ on 0 (var 3 ∷ []) ∷ on 0 (var 4 ∷ []) ∷ on 0 (var 5 ∷ []) ∷ on 0 (var 6 ∷ []) ∷ on 0 (var 7 ∷ []) ∷ on 1 (x0 ∷ []) ∷ []);
  summaries = stamped 1 (rule (x0 ∷ x1 ∷ []) (on 0 (x0 ∷ []) ∷ on 0 (x1 ∷ []) ∷ [])) ∷ stamped stamp (rule [] (on 1 (x0 ∷ []) ∷ [])) ∷ [];
}

-- its 140 bytes
abbrev nine_bytes : ℕ → List ℕ
nine_bytes stamp =
    2 ∷ 0
    ∷ 50 ∷ 0 ∷ 0 ∷ 0 ∷ 2 ∷ 0 ∷ 0 ∷ 0 ∷ 0 ∷ 0 ∷ 0 ∷ 0
    ∷ 52 ∷ 0 ∷ 0 ∷ 0 ∷ 56 ∷ 0 ∷ 0 ∷ 0 ∷ 1 ∷ 0 ∷ 0 ∷ 0
    ∷ 108 ∷ 0 ∷ 0 ∷ 0 ∷ 24 ∷ 0 ∷ 0 ∷ 0 ∷ 1 ∷ 0 ∷ 0 ∷ 0
    ∷ 132 ∷ 0 ∷ 0 ∷ 0 ∷ 8 ∷ 0 ∷ 0 ∷ 0 ∷ stamp ∷ 0 ∷ 0 ∷ 0
    ∷ 1 ∷ 1
    ∷ 0 ∷ 9
    ∷ 0 ∷ 0 ∷ 0 ∷ 0 ∷ 0 ∷ 0 ∷ 0 ∷ 0 ∷ 1 ∷ 0 ∷ 0 ∷ 0 ∷ 0 ∷ 0 ∷ 2 ∷ 0 ∷ 0 ∷ 0 ∷ 0 ∷ 0 ∷ 3 ∷ 0 ∷ 0 ∷ 0
    ∷ 0 ∷ 0 ∷ 4 ∷ 0 ∷ 0 ∷ 0 ∷ 0 ∷ 0 ∷ 5 ∷ 0 ∷ 0 ∷ 0 ∷ 0 ∷ 0 ∷ 6 ∷ 0 ∷ 0 ∷ 0 ∷ 0 ∷ 0 ∷ 7 ∷ 0 ∷ 0 ∷ 0
    ∷ 1 ∷ 0 ∷ 0 ∷ 0 ∷ 0 ∷ 0
    ∷ 2 ∷ 2 ∷ 0 ∷ 0 ∷ 0 ∷ 0 ∷ 0 ∷ 0 ∷ 1 ∷ 0 ∷ 0 ∷ 0 ∷ 0 ∷ 0 ∷ 0 ∷ 0 ∷ 0 ∷ 0 ∷ 0 ∷ 0 ∷ 1 ∷ 0 ∷ 0 ∷ 0
    ∷ 0 ∷ 1 ∷ 1 ∷ 0 ∷ 0 ∷ 0 ∷ 0 ∷ 0
    ∷ []

sound-64 : SoundBook (nine_bytes 0) (nine_subgoals 0)
unfolding book_bytes contents_end entries
sound-64 = book-sound (nine_bytes 0) (nine_subgoals 0) tt

sound-65 : SoundBook (nine_bytes 1) (nine_subgoals 1)
unfolding book_bytes contents_end entries
sound-65 = book-sound (nine_bytes 1) (nine_subgoals 1) tt

-- 65 rows are too many
too_many : Fault9 (admitted_of (nine_subgoals 1)) (nine_subgoals 1).question
unfolding admitted
too_many = record {
  rows = all_rows (admitted_of (nine_subgoals 1)) (nine_subgoals 1).question;
  each = all_rows-sound (admitted_of (nine_subgoals 1)) (nine_subgoals 1).question;
  ascending = all_rows-ascending (admitted_of (nine_subgoals 1)) (nine_subgoals 1).question;
  many = lit< tt;
}

refused-65 : RewriterRefusal (nine_bytes 1) 534 120 (of_book 9)
refused-65 = nine room (nine_subgoals 1) sound-65 too_many

not-given-65 : Given (nine_bytes 1) 534 120 → ⊥
not-given-65 g = g.few (subst (λ c. Fault9 (admitted_of c) c.question) (book-unique sound-65 g.sound) too_many)

-- 64 are not, whatever the list: equal rows count once, and one of the summary left out does not count
rows-64 : length (all_rows (admitted_of (nine_subgoals 0)) (nine_subgoals 0).question) ≡ 64
unfolding admitted
rows-64 = refl

not-too-many : Fault9 (admitted_of (nine_subgoals 0)) (nine_subgoals 0).question → ⊥
unfolding admitted
not-too-many f = omega (arith, f.many, rows-64, rows-within (admitted_of (nine_subgoals 0)) (nine_subgoals 0).question (all_safe-sound (admitted_of (nine_subgoals 0)) tt) f.rows f.each f.ascending)

not-refused-64 : RewriterRefusal (nine_bytes 0) 534 120 (of_book 9) → ⊥
not-refused-64 (read room r) = sound-unrefused sound-64 r
not-refused-64 (nine room b s f) = not-too-many (subst (λ c. Fault9 (admitted_of c) c.question) (book-unique s sound-64) f)
