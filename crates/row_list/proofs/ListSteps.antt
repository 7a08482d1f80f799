-- The list of all rows, summary by summary.
use mathlib.Core.Path.{◌≡◌, refl, sym, ap, ◌∙◌, subst}
use mathlib.Core.Option.{Option, some, none}
use mathlib.Core.List.{List}
use Prim.Native.Nat.{ℕ, suc, ◌+◌, ◌*◌, ◌<◌, ◌≤◌}
use native.Mathlib.Omega.{arith}
use lib.ListN.{length, drop, length-append, length-drop, length-map}
use Rattle.std.specs.Prelude.{Some, None}
use Rattle.spec.specs.Words.{Rule}
use Rattle.spec.specs.Summaries.{summary}
use Rattle.spec.specs.Book.{Book, if_true, admitted_of}
use Rattle.spec.specs.Refresh.{admitted}
use Rattle.spec.specs.BookLayout.{SoundBook}
use Rattle.spec.specs.Contents.{count}
use Rattle.spec.specs.Table.{most_rows}
use Rattle.spec.proofs.Decided.Sound.{AllSafe}
use Rattle.spec.proofs.Bytes.BookStands.{book-count}
use Rattle.spec.proofs.Bytes.BookPasses.{book-loads}
use Rattle.spec.proofs.Bytes.Within.{entries-some, loads-room}
use Rattle.outcomes.proofs.Bounds.{book-bounds}
use Rattle.codes.specs.Code.{term_code, codes_of}
use Rattle.codes.proofs.Padded.{codes-length}
use Rattle.summary_rows.specs.Tables.{TableTo}
use Rattle.summary_rows.proofs.TableLaws.{table_none, table-skip, table_more, table-over, over-codes, table-all}
use Rattle.row_list.specs.Listing.{ListNeeds, RowsOver, AllStand, ListSays}
use Rattle.row_list.specs.Turns.{TargetNeeds, TurnNeeds, TurnSays, TablesTo}

safe-of : (b : Book) {book : List ℕ} → SoundBook book b → AllSafe (admitted_of b)
safe-of b s = (book-bounds b s.value).safe

-- as many as the book's count
all-summaries : (b : Book) {book : List ℕ} → SoundBook book b → length (admitted_of b) ≡ count book
all-summaries b s = length-map b.summaries (λ u. if_true (admitted b.need u.stamp u.rule) u.rule) ∙ sym (book-count s)

pub tables_start : (book before : List ℕ) → TablesTo book 0 before before 0
tables_start book before = record { table = λ b s. table_none (admitted_of b) b.question before }

module _ {book : List ℕ} {area : ℕ} (w : ListNeeds book area) where
  pub count_room : 2 ≤ length book
  count_room = omega (arith, loads-room book 1 (book-loads w.sound) (entries-some book))

  module _ {i : ℕ} {before out : List ℕ} {found : ℕ} (room : length before ≡ area) (t : TablesTo book i before out found) where
    here : TableTo (admitted_of w.value) w.value.question i before out found
    here = t.table w.value w.sound

    pub tables-few : found ≤ most_rows
    tables-few = here.few

    pub tables-long : length out ≡ length before
    tables-long =
        let h = here in
        let few = h.few in
        let area = w.room in
        ap length h.codes ∙ omega (arith, length-append (codes_of term_code h.rows) (drop (9 * found) before), codes-length term_code h.rows, length-drop (9 * found) before, h.counted)

    module _ {n : ℕ} (all : n ≡ count book) where
      pub next-turn : {target own : List ℕ} → TargetNeeds book target own → i < n → TurnNeeds book target own (i + 1) found (length out)
      next-turn onto h = record {
        has = record { value = w.value; sound = w.sound; from = omega arith; to = omega (arith, book-count w.sound) };
        onto = onto;
        few = tables-few;
        room = let area = w.room in omega (arith, tables-long);
      }

      pub tables_end : n ≤ i → i ≤ n → ListSays book before out (Some found)
      tables_end h l = record { says = says }
        where
          says : (b : Book) → SoundBook book b → AllStand (admitted_of b) b.question before out found
          says b s =
              let same : i ≡ length (admitted_of b) = omega (arith, all-summaries b s) in
              let a = table-all (admitted_of b) b.question before (safe-of b s) out found (subst (λ k. TableTo (admitted_of b) b.question k before out found) same (t.table b s)) in
              record { count = a.0; few = omega (arith, a.0, a.1); codes = a.2 }

    pub tables-go : {after : List ℕ} {m : ℕ} → TurnSays book (i + 1) found out after (Some m) → TablesTo book (i + 1) before after m
    tables-go {after} {m} turn = record { table = λ b s. go b s (summary (admitted_of b) (i + 1)) refl }
      where
        go : (b : Book) → SoundBook book b → (o : Option (Rule ℕ)) → summary (admitted_of b) (i + 1) ≡ o → TableTo (admitted_of b) b.question (i + 1) before after m
        go b s (some v) e =
            let one : i + 1 ≡ suc i = omega arith in
            rw one (table_more (admitted_of b) b.question before i out found (t.table b s) v (rw one at e) after m (rw one at (turn.rows b s v e)))
        go b s none e =
            let one : i + 1 ≡ suc i = omega arith in
            let l = turn.left b s e in
            let same : m ≡ found = cc in
            rw (one, same, l.1) (table-skip (admitted_of b) b.question before i out found (rw one at e) (t.table b s))

    pub tables-over : {after : List ℕ} → TurnSays book (i + 1) found out after None → ListSays book before after None
    tables-over {after} turn = record { says = λ b s. go b s (summary (admitted_of b) (i + 1)) refl }
      where
        go : (b : Book) → SoundBook book b → (o : Option (Rule ℕ)) → summary (admitted_of b) (i + 1) ≡ o → RowsOver (admitted_of b) b.question before after
        go b s (some v) e =
            let one : i + 1 ≡ suc i = omega arith in
            let f : summary (admitted_of b) (suc i) ≡ some v = rw one at e in
            let a = rw one at (turn.rows b s v e) in
            record { many = table-over (admitted_of b) b.question before i out found (t.table b s) v f after (safe-of b s) a; codes = over-codes (admitted_of b) b.question before i out found (t.table b s) v f after (safe-of b s) a }
        go b s none e = cc ((turn.left b s e).0)
