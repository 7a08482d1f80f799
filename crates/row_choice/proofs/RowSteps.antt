-- One row of a book against all: what is lent of its use, and the set of those that dominate it.
use mathlib.Core.Path.{◌≡◌, sym, ap, ◌∙◌}
use mathlib.Core.List.{List}
use Prim.Native.Nat.{ℕ, ◌*◌, ◌<◌, ◌≤◌}
use native.Mathlib.Omega.{arith}
use lib.ListN.{length, take, drop}
use lib.Seq.{take_at}
use Rattle.spec.specs.Summaries.{in_place}
use Rattle.spec.specs.Book.{Book, admitted_of}
use Rattle.spec.proofs.Decided.Rows.{RowList}
use Rattle.choice_theory.specs.Numbered.{row_at}
use Rattle.outcomes.proofs.Bounds.{book-bounds}
use Rattle.codes.specs.Code.{kept_slot, codes_of, widths_of}
use Rattle.codes.proofs.Padded.{codes-length, widths-length}
use Rattle.book_codes.specs.OneUse.{OneUse, OneWidths}
use Rattle.book_codes.specs.RowsGiven.{RowsOf, RowsGiven}
use Rattle.book_codes.proofs.Growing.{row_from, row_of}
use Rattle.row_choice.specs.Dominators.{Against, AgainstNeeds, AgainstSays, RowsAsTargets, DominatorsOf}

module _ {book rows : List ℕ} {n : ℕ} (g : RowsGiven book rows n) {r : ℕ} (h : r < n) {before after old new : List ℕ} {k : ℕ}
    (u : (v : ℕ) → OneUse book (row_from rows r) kept_slot v before after k) (c : OneWidths book (row_from rows r) old new)
    (few : n ≤ 64) {target begins : List ℕ} (onto : RowsAsTargets book rows n target begins) where
  against : (b : Book) (l : RowList) → RowsOf book rows n b l → Against (admitted_of b) l r (take (9 * k) after) (take k new) target begins n
  against b l w =
      let o = row_of w r h in
      let m = in_place (admitted_of b) r (row_at l r) in
      let size : length m ≡ k = sym ((u r).count b (row_at l r) o) in
      record {
        sound = record { arities = b.arities; question = b.question; bounds = book-bounds b w.sound.value; within = w.within };
        count = w.count;
        few = few;
        under = record {
          there = let e = w.count in omega arith;
          codes = ap (take (9 * k)) ((u r).codes b (row_at l r) o) ∙ take_at (codes_of kept_slot m) (drop (length (codes_of kept_slot m)) before) (9 * k) (omega (arith, codes-length kept_slot m));
          counts = ap (take k) (c.widths b (row_at l r) r o) ∙ take_at (widths_of m) (drop (length (widths_of m)) old) k (widths-length m ∙ size);
        };
        all = onto.is b l w;
      }

  pub row-against : AgainstNeeds (take (9 * k) after) (take k new) target begins n
  row-against = record { summaries = admitted_of g.value; rows = g.list; r = r; is = against g.value g.list g.is }

  pub row-dominators : {set : ℕ} → AgainstSays (take (9 * k) after) (take k new) target begins n set → DominatorsOf book rows n r set
  row-dominators t = record { by = λ b l w. t.by (admitted_of b) l r (against b l w) }
