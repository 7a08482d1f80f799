-- The witness cut in two behind the way there.
use mathlib.Core.Path.{◌≡◌, sym, ap, ◌∙◌, subst}
use mathlib.Core.Bool.{Bool, true, false, false≢true}
use mathlib.Core.Logic.{◌↔◌}
use mathlib.Core.List.{List}
use Prim.Native.Nat.{ℕ, ◌*◌, ◌-◌, ◌<◌, ◌≤◌}
use native.Mathlib.Omega.{arith}
use lib.ListN.{length, take, drop, length-append, length-drop, take-append-drop}
use lib.Seq.{take_at, drop_at, take_all}
use Rattle.spec.specs.Words.{Term, Subgoal}
use Rattle.spec.specs.Summaries.{rewriting}
use Rattle.spec.specs.Answer.{There, Back}
use Rattle.spec.specs.Book.{Book, admitted_of}
use Rattle.spec.specs.BookLayout.{question_most}
use Rattle.spec.specs.Contents.{part_at}
use Rattle.spec.proofs.Bytes.BookPasses.{question-reads}
use Rattle.outcomes.proofs.Rooms.{there-long}
use Rattle.rule_codes.specs.Promises.{GoalCount}
use Rattle.book_codes.specs.Question.{SomeSound}
use Rattle.book_codes.specs.FewRows.{FewRowsOf, FewRows}
use Rattle.bits.proofs.Laws.{exactly-no}
use Rattle.witness_check.specs.WayThere.Confirms.{ThereCheckSays}
use Rattle.witness_check.specs.WayBack.Confirms.{BackCheckSays}
use Rattle.checker.specs.Steps.{QuestionGoals, Witness, ConfirmSays}

pub goals-are : {book body : List ℕ} {n : ℕ} → body ≡ part_at book 1 → GoalCount body n → QuestionGoals book n
goals-are {book} part g = record { is = λ b s. g.is (part_at book 0) question_most b.question (rw part (question-reads s)) }

pub few-sound : {book rows : List ℕ} {k : ℕ} → FewRows book rows k → SomeSound book
few-sound w = record { value = w.value; sound = w.is.rows_of.sound }

module _ {book rows : List ℕ} {k : ℕ} {n : ℕ} (goals : QuestionGoals book n) where
  pub goals-few : FewRows book rows k → n ≤ 12
  goals-few w = let s = w.is.rows_of.sound in omega (arith, goals.is w.value s, s.value.question.within.few)

  module _ {witness : List ℕ} where
    -- the first part is as long as it has to be
    first-long : (b : Book) (l : List (Subgoal (Term ℕ))) → FewRowsOf book rows k b l → (w : Witness b l witness) → length w.there ≡ 2 * n
    first-long b l t w = there-long (admitted_of b) b.question (rewriting b.question l) w.there w.goes ∙ ap (λ m. 2 * m) (sym (goals.is b t.rows_of.sound))

    pub too_short : length witness < 2 * n → ConfirmSays book rows k witness false
    too_short h = record { exactly = λ b l t. exactly-no (λ w. omega (arith, first-long b l t w, ap length w.whole, length-append w.there w.back)) }

    first-is : (b : Book) (l : List (Subgoal (Term ℕ))) → FewRowsOf book rows k b l → (w : Witness b l witness) → take (2 * n) witness ≡ w.there
    first-is b l t w = ap (take (2 * n)) w.whole ∙ take_at w.there w.back (2 * n) (first-long b l t w)

    rest-is : (b : Book) (l : List (Subgoal (Term ℕ))) → FewRowsOf book rows k b l → (w : Witness b l witness) → drop (2 * n) witness ≡ w.back
    rest-is b l t w = ap (drop (2 * n)) w.whole ∙ drop_at w.there w.back (2 * n) (first-long b l t w)

    module _ {first : Bool} (there : ThereCheckSays book rows k (take (2 * n) witness) first) where
      pub not_there : first ≡ false → ConfirmSays book rows k witness false
      not_there e = record { exactly = λ b l t. exactly-no (λ w. false≢true (sym e ∙ (there.exactly b l t).1 (subst (There (admitted_of b) b.question (rewriting b.question l)) (sym (first-is b l t w)) w.goes))) }

      pub both-parts : first ≡ true → {second : Bool} → BackCheckSays book rows k (take (length witness - 2 * n) (drop (2 * n) witness)) second → ConfirmSays book rows k witness second
      both-parts e {second} back = record {
        exactly = λ b l t.
            let f = there.exactly b l t in
            let g = subst (λ x. (second ≡ true) ↔ Back (admitted_of b) b.question (rewriting b.question l) x) whole-rest (back.exactly b l t) in (
              λ y. record { there = take (2 * n) witness; back = drop (2 * n) witness; whole = sym (take-append-drop (2 * n) witness); goes = f.0 e; returns = g.0 y },
              λ w. g.1 (subst (Back (admitted_of b) b.question (rewriting b.question l)) (sym (rest-is b l t w)) w.returns),
            );
      }
        where
          whole-rest : take (length witness - 2 * n) (drop (2 * n) witness) ≡ drop (2 * n) witness
          whole-rest = take_all (length witness - 2 * n) (drop (2 * n) witness) (omega (arith, length-drop (2 * n) witness))
