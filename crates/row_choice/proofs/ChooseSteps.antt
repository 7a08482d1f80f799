-- The task of choosing, as the codes that are lent.
use mathlib.Core.Path.{◌∙◌}
use mathlib.Core.List.{List}
use Rattle.std.specs.Prelude.{Option}
use Prim.Native.Nat.{ℕ, ◌*◌}
use native.Mathlib.Omega.{arith}
use lib.ListN.{take, replicate}
use lib.Seq.{length-take-le}
use Rattle.spec.specs.Words.{Term, Subgoal}
use Rattle.spec.specs.Book.{Book, admitted_of}
use Rattle.spec.proofs.Decided.Rows.{RowList, all_rows, all_rows-enumerate}
use Rattle.outcomes.proofs.Bounds.{book-bounds}
use Rattle.book_codes.specs.Question.{QuestionSource, QuestionBound}
use Rattle.book_codes.specs.RowsGiven.{RowsOf}
use Rattle.book_codes.proofs.Lent.{goals-few, source-codes, source-widths}
use Rattle.task.specs.Task.{Task, posed}
use Rattle.first_shortest.specs.Posed.{PosedBy}
use Rattle.first_shortest.specs.Pruning.{Table, FeasibilityNeeds}
use Rattle.first_shortest.specs.Chosen.{ChoiceSays}
use Rattle.first_shortest.specs.declared.Chosen.{Chosen}
use Rattle.row_choice.specs.Asked.{ChoiceNeedsOf, ChoiceNeeds, RowChoiceSays}
use Rattle.row_choice.specs.Targets.{Targets, Owners}
use Rattle.row_choice.specs.Dominance.{Dominance}
use Rattle.row_choice.proofs.AskedLaws.{asked-rows}

-- The sets make a table for the choice.
table_of : {book rows dom : List ℕ} {n : ℕ} {b : Book} {l : RowList} → RowsOf book rows n b l → Dominance book rows n dom → Table (admitted_of b) l n dom
table_of {b = b} {l} w d = record {
  within = λ r x h m. let e = ((d.by b l w r h).exactly x).0 m in let c = w.count in omega arith;
  sound = λ r x h m. (((d.by b l w r h).exactly x).0 m).1;
}

module _ {book rows : List ℕ} {n : ℕ} (a : ChoiceNeeds book rows n) {before source old widths : List ℕ} {k : ℕ} (w : QuestionSource book before source old widths k) where
  module _ {target own bound dom : List ℕ} (targets : Targets book rows n target) (owned : Owners book rows n own) (head : QuestionBound book bound) (d : Dominance book rows n dom) where
    abbrev lent : Task
    lent = posed (take (9 * k) source) (take k widths) (take k (replicate 12 0)) target own

    posed-by : (b : Book) → ChoiceNeedsOf book rows n b → PosedBy (admitted_of b) b.question (all_rows (admitted_of b) b.question) lent bound n
    posed-by b o = record {
      arities = b.arities;
      bounds = book-bounds b o.sound.value;
      all = all_rows-enumerate (admitted_of b) b.question (book-bounds b o.sound.value).safe;
      within = given.within;
      count = given.count;
      few = o.few;
      codes = λ i. posed (source-codes b o.sound w i) (source-widths b o.sound w i) (take k (replicate 12 0)) (targets.is b all given i) (owned.is b all given i);
      marked = length-take-le k (replicate 12 0) (goals-few b o.sound w) ∙ w.count b o.sound;
      head = head.is b o.sound;
    }
      where
        all : List (Subgoal (Term ℕ))
        all = all_rows (admitted_of b) b.question

        given : RowsOf book rows n b all
        given = asked-rows o

    pub choose-posed : FeasibilityNeeds lent bound n dom
    choose-posed = record {
      task = record { summaries = admitted_of a.value; question = a.value.question; rows = all_rows (admitted_of a.value) a.value.question; by = posed-by a.value a.is };
      table = table_of (asked-rows a.is) d;
    }

    pub rows-chosen : {r : Option Chosen} → ChoiceSays lent bound n r → RowChoiceSays book rows n r
    rows-chosen h = record { by = λ b o. h.by (admitted_of b) b.question (all_rows (admitted_of b) b.question) (posed-by b o) }
