-- The task of one summary's rows, as the codes that are lent to the search.
use mathlib.Core.Path.{◌≡◌, sym, ap, ◌∙◌}
use mathlib.Core.List.{List, map}
use Prim.Native.Nat.{ℕ, ◌*◌, ◌≤◌}
use native.Mathlib.Omega.{arith}
use lib.ListN.{length, take, replicate, length-append, length-map}
use Rattle.std.specs.Prelude.{Option}
use Rattle.spec.specs.Words.{Rule}
use Rattle.spec.proofs.Lists.Zeros.{zeros-take}
use Rattle.codes.specs.Code.{slot_code, codes_of, widths_of}
use Rattle.codes.proofs.Padded.{codes-length, widths-length}
use Rattle.rule_codes.specs.Promises.{HeadCount}
use Rattle.rule_codes.proofs.Stores.{front-again}
use Rattle.task.specs.Task.{Task, posed}
use Rattle.summary_rows.specs.RowTask.{alone, placed, TaskOf}
use Rattle.summary_rows.specs.RowPlaces.{HeadTask}
use Rattle.summary_rows.specs.RowsAfter.{RowsNeeds, RowsSays}
use Rattle.summary_rows.proofs.HeadLaws.{row-ready}
use Rattle.row_list.specs.Tasks.{SummaryIs, SourceCodes}
use Rattle.row_list.specs.Placings.{SummaryTask, SummaryTaskNeeds, PlacedRows}

module _ {relations bytes target own : List ℕ} {found area : ℕ} (w : SummaryTaskNeeds relations bytes target own found area)
    {before source old widths : List ℕ} {n : ℕ} (s : SourceCodes relations bytes before source old widths n) where
  few-goals : (v : Rule ℕ) → SummaryIs relations bytes v → length (placed v) ≤ 16
  few-goals v i =
      let heads = i.layout.within.short in
      let goals = i.layout.within.few in
      omega (arith, length-append (map alone v.head) v.body, length-map v.head alone)

  pub goals-few : n ≤ 16
  goals-few = let v = w.rule in let i = w.is.summary in omega (arith, s.count v i, few-goals v i)

  abbrev lent : Task
  lent = posed (take (9 * n) source) (take n widths) (take n (replicate 16 0)) target own

  module _ {h : ℕ} (heads : HeadCount bytes h) where
    task-of : (v q : Rule ℕ) (p : SummaryTask relations bytes target own v q) → TaskOf v q p.onto.terms lent h
    task-of v q p = record {
      codes = λ i. record { source = source_is i; widths = widths-is i; lasts = lasts-is i; target = p.onto.codes i; own = p.onto.marks i };
      long = sym (heads.is relations 8 v p.summary.layout);
      terms = p.onto.all;
      arities = relations;
      relations = p.known;
      summary = p.summary.layout.within;
      safe = p.safe;
      plain = p.summary.plain;
      question = p.question;
    }
      where
        source_is : take (9 * n) source ≡ codes_of slot_code (placed v)
        source_is =
            front-again (codes_of slot_code (placed v)) before _ (9 * n) (s.codes v p.summary) (omega (arith, codes-length slot_code (placed v), s.count v p.summary))

        widths-is : take n widths ≡ widths_of (placed v)
        widths-is = front-again (widths_of (placed v)) old _ n (s.widths v p.summary) (widths-length (placed v) ∙ sym (s.count v p.summary))

        lasts-is : ◌≡◌ {A = List ℕ} (take n (replicate 16 0)) (replicate (length (placed v)) 0)
        lasts-is = zeros-take n 16 goals-few ∙ ap (λ k. replicate k 0) (s.count v p.summary)

    pub rows-ready : HeadTask lent h
    rows-ready = row-ready w.rule w.question w.is.onto.terms lent h (task-of w.rule w.question w.is)

    pub rows-asked : RowsNeeds lent h found area
    rows-asked = record { rule = w.rule; question = w.question; terms = w.is.onto.terms; task = task-of w.rule w.question w.is; few = w.few; room = w.room }

    pub rows-placed : {number : ℕ} {out after : List ℕ} {r : Option ℕ} → RowsSays lent h number found out after r → PlacedRows relations bytes target own number found out after r
    rows-placed a = record { rows = λ v q p. a.rows v q p.onto.terms (task-of v q p) }
