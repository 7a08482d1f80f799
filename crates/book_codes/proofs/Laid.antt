-- A sound book's question stands where it is read, and what is read there is the question's.
use mathlib.Core.Path.{◌≡◌}
use mathlib.Core.List.{List}
use Prim.Native.Nat.{ℕ, ◌<◌, ◌≤◌}
use native.Mathlib.Omega.{arith}
use lib.ListN.{get_or}
use Rattle.spec.specs.Words.{◌∈◌, var}
use Rattle.spec.specs.Book.{Book}
use Rattle.spec.specs.BookLayout.{SoundBook, question_most}
use Rattle.spec.specs.Contents.{entries_in, part_at}
use Rattle.spec.specs.Refusals.{Loads}
use Rattle.spec.proofs.Decided.Equal.{dec_equal, eq_term, eq_number}
use Rattle.spec.proofs.Bytes.BookPasses.{book-loads, question-reads, question-laid}
use Rattle.spec.proofs.Lists.Finite.{is-in}
use Rattle.spec.proofs.Bytes.Within.{entries-some}
use Rattle.codes.specs.Code.{slot_code, term_code}
use Rattle.rule_codes.specs.Laid.{Laid, LaidOver}
use Rattle.rule_codes.specs.Promises.{BodyCodes, BodyWidths}
use Rattle.rule_codes.specs.Heads.{HeadBindings}
use Rattle.rule_codes.proofs.RuleLaid.{goals-counted, rule-there}
use Rattle.book_codes.specs.Question.{SomeSound, QuestionSource, QuestionTarget, QuestionBound}

module _ {book : List ℕ} (w : SomeSound book) where
  pub first_part : Loads book × (0 < entries_in book)
  first_part = (book-loads w.sound, omega (arith, entries-some book))

  pub question-part : Loads book × (1 < entries_in book)
  question-part = (book-loads w.sound, entries-some book)

  module _ {body : List ℕ} (part : body ≡ part_at book 1) where
    pub laid : Laid body
    laid = record { arities = part_at book 0; most = question_most; rule = w.value.question; layout = rw part (question-reads w.sound) }

    pub bindings-are : {bound : List ℕ} → HeadBindings body bound → QuestionBound book bound
    bindings-are {bound} h = record { is = λ b s. record { bound = λ x i. h.shown (part_at book 0) question_most b.question (rw part (question-reads s)) x i; only = only b s } }
      where
        only : (b : Book) (s : SoundBook book b) (x : ℕ) → (get_or bound x 0 ≡ 0 → ⊥) → var x ∈ b.question.head
        only b s x o = elim (is-in (dec_equal (eq_term eq_number)) (var x) b.question.head) [
          | yes i ↦ i
          | no n ↦ absurd (o (h.other (part_at book 0) question_most b.question (rw part (question-reads s)) x n))
        ]

    module _ {relations : List ℕ} (first : relations ≡ part_at book 0) where
      pub question-rule : ∥ LaidOver relations body ∥₁
      question-rule = rule-there (question-laid first part w.value w.sound)

      -- "question 1 to 12" subgoals
      pub question-goals : get_or body 1 0 ≤ 12
      question-goals = let l = question-laid first part w.value w.sound in let few = l.within.few in omega (arith, goals-counted l)

      pub source_is : {before after old new : List ℕ} {n : ℕ} → BodyCodes relations body slot_code before after n → BodyWidths relations body old new n → QuestionSource book before after old new n
      source_is f g = record {
        count = λ b s. f.count question_most b.question (question-laid first part b s);
        codes = λ b s. f.codes question_most b.question (question-laid first part b s);
        widths = λ b s. g.widths question_most b.question (question-laid first part b s);
      }

      pub target_is : {before after : List ℕ} {n : ℕ} → BodyCodes relations body term_code before after n → QuestionTarget book before after n
      target_is f = record { count = λ b s. f.count question_most b.question (question-laid first part b s); codes = λ b s. f.codes question_most b.question (question-laid first part b s) }
