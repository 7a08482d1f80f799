-- Whether bytes are a book of the table of values and what is said of them is what is said there, as tests.
use mathlib.Core.Bool.{Bool, true, false, ◌&&◌}
use mathlib.Core.Option.{Option, some, none}
use mathlib.Core.List.{List}
use Prim.Native.Nat.{ℕ}
use native.Mathlib.Omega.{arith}
use lib.ListN.{length}
use lib.Dec.{T, leb, leb→le, ltb, ltb→lt}
use Rattle.spec.specs.Words.{◌∈◌, Rule}
use Rattle.spec.specs.Book.{Book, admitted_of}
use Rattle.spec.specs.Result.{Answered}
use Rattle.spec.specs.BookLayout.{SoundBook}
use Rattle.spec.specs.Refusals.{of_book}
use Rattle.spec.specs.Table.{most_rows, Fault1, Fault9, RewriterRefusal, nine, ten}
use Rattle.spec.specs.Given.{answer_bytes, witness_bytes}
use Rattle.spec.proofs.Decided.Rows.{all_rows}
use Rattle.spec.proofs.Lists.Tests.{and_parts, any, any-sound}
use Rattle.spec.proofs.Decided.Equal.{eq_number, eq_list}
use Rattle.spec.proofs.Examples.Values.{ValueSheet, sheets, Meant, meant}
use Rattle.spec.proofs.Bytes.SoundTest.{sound_book, book-sound}
use Rattle.outcomes.proofs.Grants.{value-safe}
use Rattle.outcomes.proofs.Total.{fault-9}
use Rattle.sheets.specs.Sheet.{GivenAs}

abbrev row_count : Book → ℕ
row_count b = length (all_rows (admitted_of b) b.question)

-- what the value's sheet says: the answer and the witness laid out are these bytes; there is none
abbrev laid_out : List ℕ → List ℕ → Rule ℕ → Option Answered → Bool
laid_out answer witness q none = false
laid_out answer witness q (some a) = (eq_list eq_number).test (answer_bytes q a) answer && (eq_list eq_number).test (witness_bytes a) witness

abbrev nothing : Option Answered → Bool
nothing none = true
nothing (some a) = false

module _ (book : List ℕ) where
  -- The bytes are a sound book of this value, which has at most 64 rows.
  abbrev few : Book → Bool
  few b = sound_book book b && leb (row_count b) most_rows

  record RowsFew (b : Book) : Type 0 where
    sound : SoundBook book b
    at_most : Fault9 (admitted_of b) b.question → ⊥

  few-sound : (b : Book) → T (few b) → RowsFew b
  few-sound b h =
      let w = and_parts (sound_book book b) (leb (row_count b) most_rows) h in
      let s = book-sound book b w.0 in
      let most = leb→le (row_count b) most_rows w.1 in
      record { sound = s; at_most = λ f. let more = (fault-9 (admitted_of b) b.question (value-safe s.value)).0 f in omega arith }

  -- The bytes are a sound book of this value, which has more.
  abbrev pub many : Book → Bool
  many b = sound_book book b && ltb most_rows (row_count b)

  abbrev accepted_as : List ℕ → List ℕ → ValueSheet → Bool
  accepted_as answer witness v = few v.book && laid_out answer witness v.book.question v.expected

  abbrev pub accepted : List ℕ → List ℕ → Bool
  accepted answer witness = any (accepted_as answer witness) sheets

  abbrev refused_as : ValueSheet → Bool
  refused_as v = few v.book && nothing v.expected

  abbrev pub refused : Bool
  refused = any refused_as sheets

  module _ (n m : ℕ) (room : Fault1 n m → ⊥) where
    pub accepted-sound : (answer witness : List ℕ) → T (accepted answer witness) → GivenAs book answer witness n m
    accepted-sound answer witness h = let s = any-sound (accepted_as answer witness) sheets h in by s.0 s.1 s.2
      where
        told : (v : ValueSheet) → RowsFew v.book → (o : Option Answered) → Meant v.book o → T (laid_out answer witness v.book.question o) → GivenAs book answer witness n m
        told v f none right t = absurd t
        told v f (some a) right t =
            let w = and_parts ((eq_list eq_number).test (answer_bytes v.book.question a) answer) ((eq_list eq_number).test (witness_bytes a) witness) t in
            record {
              given = record { room = room; value = v.book; sound = f.sound; few = f.at_most; result = a; right = right };
              answer_is = (eq_list eq_number).sound (answer_bytes v.book.question a) answer w.0;
              witness_is = (eq_list eq_number).sound (witness_bytes a) witness w.1;
            }

        by : (v : ValueSheet) → v ∈ sheets → T (accepted_as answer witness v) → GivenAs book answer witness n m
        by v i t = let w = and_parts (few v.book) (laid_out answer witness v.book.question v.expected) t in told v (few-sound v.book w.0) v.expected (meant v i) w.1

    pub refused-sound : T refused → RewriterRefusal book n m (of_book 10)
    refused-sound h = let s = any-sound refused_as sheets h in by s.0 s.1 s.2
      where
        told : (v : ValueSheet) → RowsFew v.book → (o : Option Answered) → Meant v.book o → T (nothing o) → RewriterRefusal book n m (of_book 10)
        told v f none never t = ten room v.book f.sound f.at_most never
        told v f (some a) right t = absurd t

        by : (v : ValueSheet) → v ∈ sheets → T (refused_as v) → RewriterRefusal book n m (of_book 10)
        by v i t = let w = and_parts (few v.book) (nothing v.expected) t in told v (few-sound v.book w.0) v.expected (meant v i) w.1

    pub many-sound : (b : Book) → T (many b) → RewriterRefusal book n m (of_book 9)
    many-sound b h =
        let w = and_parts (sound_book book b) (ltb most_rows (row_count b)) h in
        let s = book-sound book b w.0 in
        nine room b s ((fault-9 (admitted_of b) b.question (value-safe s.value)).1 (ltb→lt most_rows (row_count b) w.1))
