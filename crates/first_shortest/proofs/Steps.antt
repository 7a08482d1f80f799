-- The start of the pass, a row tried, the end.
use mathlib.Core.Path.{◌≡◌, refl, sym, ap, ◌∙◌}
use mathlib.Core.Bool.{Bool, true, false, cond, true≢false}
use mathlib.Core.Logic.{⊎_elim, ◌↔◌}
use mathlib.Core.List.{List, [], ◌∷◌, ◌++◌}
use Rattle.std.specs.Prelude.{Some, None}
use Prim.Native.Nat.{ℕ, zero, suc, ◌+◌, ◌-◌, ◌<◌, ◌≤◌}
use native.Mathlib.Omega.{arith}
use native.Mathlib.Decide.{dec_lt}
use native.Mathlib.Numerals.{add-one}
use lib.ListN.{length, take, drop, replicate, set, length-set}
use lib.Seq.{take-suc-set, drop-set-lt, length-take-le}
use Rattle.spec.specs.Words.{Rule}
use Rattle.spec.specs.Summaries.{Summaries}
use Rattle.choice_theory.specs.Can.{Can}
use Rattle.choice_theory.specs.Going.{AtLeast}
use Rattle.choice_theory.specs.Marked.{Marked}
use Rattle.choice_theory.proofs.MarkedLaws.{marked_start, marked-taken, marked-passed, marked-can}
use Rattle.choice_theory.proofs.Frame.{going_start, going-within, going-taken, going-passed, going-answer}
use Rattle.choice_theory.proofs.Fewest.{at-least-start, at-least-next, at-least-none}
use Rattle.bits.specs.Sets.{Has, with, without, first}
use Rattle.bits.proofs.Laws.{has-none, with-new, with-old, with_cases}
use Rattle.bits.proofs.Less.{without_is, first-in}
use Rattle.task.specs.Task.{Task}
use Rattle.task.specs.Mapped.{Feasible}
use Rattle.placing.specs.FirstPlaces.{Enough}
use Rattle.first_shortest.specs.Posed.{PosedBy}
use Rattle.first_shortest.specs.Chosen.{ChoiceSays}
use Rattle.first_shortest.specs.Passing.{starting, taking, passing, Fewest, TooFew, Tried, Underway}
use Rattle.first_shortest.specs.declared.pass.Pass.{Pass}
use Rattle.first_shortest.proofs.Tests.{feasible-can}
use Rattle.spec.proofs.Lists.Zeros.{drop-next}
use Rattle.spec.proofs.Decided.Rows.{RowList}

-- before the first row: of n rows none is used, all may be
module _ {s : Summaries} {q : Rule ℕ} {rows : RowList} {t : Task} {b : List ℕ} {n : ℕ} (p : PosedBy s q rows t b n) where
  marked-none : Marked (length rows) (Has 0) (Has (first n)) [] 0
  marked-none = marked_start (length rows) (Has 0) (Has (first n)) (λ u h. has-none u) (λ u h. first-in n u (omega (arith, p.count)))

  can-start : (k : ℕ) → Feasible t b 0 (first n) k ↔ Can s q rows [] 0 k
  can-start k =
      let f = feasible-can p 0 (first n) k in
      let m = marked-can s q rows marked-none k in
      (λ h. m.0 (f.0 h), λ h. f.1 (m.1 h))

  -- fewer than k cannot do
  at_least : (k : ℕ) → ((j : ℕ) → j < k → Feasible t b 0 (first n) j → ⊥) → AtLeast s q rows k
  at_least zero h = at-least-start s q rows
  at_least (suc k) h = rw (sym (add-one k)) (at-least-next s q rows k (at_least k (λ j l. h j (omega arith))) (λ c. h k (omega arith) ((can-start k).1 c)))

-- what fewer rows can do, more can
feasible-more : {t : Task} {b : List ℕ} {used may left more : ℕ} → left ≤ more → Feasible t b used may left → Feasible t b used may more
feasible-more h f =
    record {
      places = f.places;
      mapped = f.mapped;
      within = record { taken = f.within.taken; few = omega (arith, f.within.few); allowed = f.within.allowed; each = f.within.each };
    }

module _ {t : Task} {b : List ℕ} {all may left : ℕ} {a : Bool} (given : Enough t b 0 all left a) (every : all ≡ may) where
  pub can-do : a ≡ true → Feasible t b 0 may left
  can-do z = rw every at (given.exactly.0 z)

  pub cannot-do : a ≡ false → Feasible t b 0 may left → ⊥
  cannot-do z f = true≢false (sym (given.exactly.1 (rw every f)) ∙ z)

  -- where so many rows cannot do, fewer cannot
  pub never-do : a ≡ false → (j : ℕ) → j ≤ left → Feasible t b 0 may j → ⊥
  never-do z j h f = cannot-do z (feasible-more h f)

module _ {t : Task} {b : List ℕ} {n k : ℕ} (f : Fewest t b n k) where
  pub underway-start : Underway t b n 0 (starting n k)
  underway-start = record {
    few = omega (arith, f.few);
    long = refl;
    rest = refl;
    by = λ s q rows p. record { going = going_start s q rows k (at_least p k f.fewer) ((can-start p k).0 f.can); marked = marked-none p };
  }

-- 12 cannot do
pub chooses_none : {t : Task} {b : List ℕ} {n : ℕ} → TooFew t b n → ChoiceSays t b n None
chooses_none f = record {
  by = λ s q rows p. record { none = at-least-none s q rows p.all 13 (at_least p 13 (λ j h. f.never j (omega arith))) (omega (arith, p.bounds.question.few)) };
}

module _ {t : Task} {b : List ℕ} {n row : ℕ} {p : Pass} (w : Underway t b n row p) where
  -- The end: none is left to take, or no row is left. The rows taken are the answer.
  pub chooses-found : (0 < p.left → n ≤ row) → ChoiceSays t b n (Some p.chosen)
  chooses-found over = record {
    by = λ s q rows o.
        let g = (w.by s q rows o).going in
        let none : p.left ≡ 0 = elim (dec_lt 0 p.left) [ yes h ↦ omega (arith, going-within s q rows g h, over h, o.count) | no h ↦ omega arith ] in
        record {
          few = omega (arith, w.few);
          count = length-take-le p.chosen.k p.chosen.rows (omega (arith, w.few, w.long));
          within = λ u m. omega (arith, g.earlier u m, g.within);
          answer = going-answer s q rows o.all (rw none at g);
          rest = w.rest;
        };
  }

  module _ (here : row < n) (some : 0 < p.left) where
    -- what the sets say once the row is taken
    module _ {s : Summaries} {q : Rule ℕ} {rows : RowList} (o : PosedBy s q rows t b n) where
      marked_next : Marked (length rows) (Has (with p.used row)) (Has (without p.may row)) (take p.chosen.k p.chosen.rows ++ (row ∷ [])) (row + 1)
      marked_next = marked-taken (w.by s q rows o).marked _ _ (λ u h. (with_cases p.used row u, ⊎_elim (with-old p.used row u) (λ e. rw e (with-new p.used row)))) (λ u h. without_is p.may row u)

      can-next : Feasible t b (with p.used row) (without p.may row) (p.left - 1) ↔ Can s q rows (take p.chosen.k p.chosen.rows ++ (row ∷ [])) (row + 1) (p.left - 1)
      can-next =
          let f = feasible-can o (with p.used row) (without p.may row) (p.left - 1) in
          let m = marked-can s q rows marked_next (p.left - 1) in
          (λ h. m.0 (f.0 h), λ h. f.1 (m.1 h))

    taken-list : take (p.chosen.k + 1) (set p.chosen.rows p.chosen.k row) ≡ take p.chosen.k p.chosen.rows ++ (row ∷ [])
    taken-list = rw add-one (take-suc-set p.chosen.rows p.chosen.k row (omega (arith, w.few, w.long)))

    taken-rest : drop (p.chosen.k + 1) (set p.chosen.rows p.chosen.k row) ≡ replicate (12 - (p.chosen.k + 1)) 0
    taken-rest =
        let e : 12 - p.chosen.k ≡ suc (12 - (p.chosen.k + 1)) = omega (arith, w.few) in
        rw (add-one, drop-set-lt (suc p.chosen.k) p.chosen.rows p.chosen.k row (omega arith)) (drop-next (12 - (p.chosen.k + 1)) p.chosen.rows p.chosen.k (w.rest ∙ ap (λ m. replicate m 0) e) ∙ ap (λ m. replicate (12 - m) 0) (add-one p.chosen.k))

    taking-underway : Feasible t b (with p.used row) (without p.may row) (p.left - 1) → Underway t b n (row + 1) (taking p row)
    taking-underway f = record {
      few = omega (arith, w.few);
      long = length-set p.chosen.rows p.chosen.k row ∙ w.long;
      rest = taken-rest;
      by = λ s q rows o. record {
        going = rw taken-list (going-taken s q rows (w.by s q rows o).going some ((can-next o).0 f));
        marked = rw taken-list (marked_next o);
      };
    }

    passing-underway : (Feasible t b (with p.used row) (without p.may row) (p.left - 1) → ⊥) → Underway t b n (row + 1) (passing p row)
    passing-underway f = record {
      few = w.few;
      long = w.long;
      rest = w.rest;
      by = λ s q rows o. record {
        going = going-passed s q rows (w.by s q rows o).going some (λ c. f ((can-next o).1 c));
        marked = marked-passed (w.by s q rows o).marked _ _ (λ u h. (λ i. i, λ i. i)) (λ u h. without_is p.may row u);
      };
    }

    pub underway-tried : {after : Pass} → Tried t b row p after → Underway t b n (row + 1) after
    underway-tried v = go v.answer v.exactly v.result
      where
        go : {after : Pass} (a : Bool) → Enough t b (with p.used row) (without p.may row) (p.left - 1) a → after ≡ cond a (taking p row) (passing p row) → Underway t b n (row + 1) after
        go true e z = rw z (taking-underway (e.exactly.0 refl))
        go false e z = rw z (passing-underway (λ f. let z : ◌≡◌ {A = ℕ} 0 1 = cc (e.exactly.1 f) in omega arith))
