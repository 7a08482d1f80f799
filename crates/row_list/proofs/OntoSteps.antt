-- The target that is made of a sound book's question.
use mathlib.Core.Path.{◌≡◌, ap, ◌∙◌}
use mathlib.Core.List.{List, map}
use Prim.Native.Nat.{ℕ, ◌*◌, ◌<◌, ◌≤◌}
use native.Mathlib.Omega.{arith}
use lib.ListN.{length, get_or, take, replicate, length-append, length-map}
use lib.Seq.{length-take-le}
use Rattle.spec.specs.Words.{Rule}
use Rattle.spec.specs.Book.{Book}
use Rattle.spec.specs.RuleLayout.{Layout}
use Rattle.spec.specs.BookLayout.{question_most, SoundBook}
use Rattle.spec.specs.Contents.{entries_in, part_at}
use Rattle.spec.specs.Refusals.{Loads}
use Rattle.spec.proofs.Bytes.BookPasses.{book-loads, question-laid}
use Rattle.spec.proofs.Bytes.Within.{entries-some}
use Rattle.spec.proofs.Lists.Zeros.{zeros-take}
use Rattle.codes.specs.Code.{term_code, codes_of}
use Rattle.codes.proofs.Padded.{codes-length}
use Rattle.rule_codes.specs.Laid.{LaidOver, QuestionLaid}
use Rattle.rule_codes.proofs.RuleLaid.{goals-counted, rule-there}
use Rattle.rule_codes.proofs.Stores.{front_length, front-again}
use Rattle.summary_rows.specs.RowTask.{alone, onto}
use Rattle.row_list.specs.Tasks.{TargetCodes}
use Rattle.row_list.specs.Listing.{ListNeeds}
use Rattle.row_list.specs.Placings.{TargetIs}
use Rattle.row_list.specs.Turns.{TargetNeeds}

module _ {book : List ℕ} {area : ℕ} (w : ListNeeds book area) where
  pub loads-it : Loads book
  loads-it = book-loads w.sound

  pub has-relations : 0 < entries_in book
  has-relations = omega (arith, entries-some book)

  module _ {relations body : List ℕ} (first : relations ≡ part_at book 0) (part : body ≡ part_at book 1) where
    pub question-is : QuestionLaid relations body
    question-is = record { known = rw first loads-it.relations.arities; rule = w.value.question; layout = question-laid first part w.value w.sound }

    pub question-rule : ∥ LaidOver relations body ∥₁
    question-rule = rule-there question-is.layout

    pub question-goals : get_or body 1 0 ≤ 12
    question-goals = let few = question-is.layout.within.few in omega (arith, goals-counted question-is.layout)

    module _ {before after : List ℕ} {n : ℕ} (wide : length before ≡ 972) (t : TargetCodes relations body before after n) where
      targets-most : (q : Rule ℕ) (l : Layout relations question_most body q) → length (onto (t.terms q l) q) ≤ 108
      targets-most q l =
          let few = (t.all q l).few in
          let goals = l.within.few in
          omega (arith, length-append (map alone (t.terms q l)) q.body, length-map (t.terms q l) alone)

      pub targets-few : n ≤ 108
      targets-few = let q = w.value.question in let l = question-laid first part w.value w.sound in omega (arith, t.count q l, targets-most q l)

      pub target-long : length after ≡ 972
      target-long =
          let q = w.value.question in
          let l = question-laid first part w.value w.sound in
          ap length (t.codes q l) ∙ front_length (codes_of term_code (onto (t.terms q l) q)) before (omega (arith, codes-length term_code (onto (t.terms q l) q), targets-most q l)) ∙ wide

      pub target-part : length (take (9 * n) after) ≡ 9 * n
      target-part = length-take-le (9 * n) after (omega (arith, target-long, targets-few))

      pub own-part : length (take n (replicate {A = ℕ} 108 0)) ≡ n
      own-part = length-take-le n (replicate 108 0) (omega (arith, targets-few))

      pub onto-question : TargetNeeds book (take (9 * n) after) (take n (replicate 108 0))
      onto-question = record { is = is }
        where
          is : (b : Book) → SoundBook book b → TargetIs b.question (take (9 * n) after) (take n (replicate 108 0))
          is b s =
              let q = b.question in
              let l = question-laid first part b s in
              let codes = codes_of term_code (onto (t.terms q l) q) in
              record {
                terms = t.terms q l;
                all = t.all q l;
                codes = front-again codes before _ (9 * n) (t.codes q l) (omega (arith, codes-length term_code (onto (t.terms q l) q), t.count q l));
                marks = zeros-take n 108 targets-few ∙ ap (λ k. replicate k 0) (t.count q l);
              }
