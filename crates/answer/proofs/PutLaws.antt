-- Answer and witness written: what the areas then hold is what is given.
use mathlib.Core.Path.{◌≡◌, refl, sym, ap, subst, ◌∙◌}
use mathlib.Core.Logic.{inl, inr}
use mathlib.Core.List.Memᴰ
use mathlib.Core.List.{List, [], ◌∷◌, ◌++◌, map}
use Prim.Native.Nat.{ℕ, zero, suc, ◌+◌, ◌*◌, ◌<◌, ◌≤◌}
use native.Mathlib.Omega.{arith}
use native.Mathlib.Decide.{dec_lt}
use lib.ListN.{length, get_or, take, length-append, length-map}
use lib.Seq.{sets, length-sets, take_all}
use Rattle.spec.specs.Words.{◌∈◌, Term, con, Subgoal, Rule, becomes}
use Rattle.spec.specs.Book.{Book}
use Rattle.spec.specs.Result.{Answered}
use Rattle.spec.specs.RuleLayout.{rule_bytes, terms_bytes, subgoals_bytes}
use Rattle.spec.specs.Contents.{entries_in, part_at}
use Rattle.spec.specs.Refusals.{Loads}
use Rattle.spec.specs.Table.{Fault1, answer_room, witness_room}
use Rattle.spec.specs.Given.{at_front, answer_bytes, witness_bytes, Given}
use Rattle.spec.specs.Rewriting.{Accepted}
use Rattle.spec.proofs.Bytes.BookPasses.{book-loads}
use Rattle.spec.proofs.Bytes.BookStands.{question-part}
use Rattle.spec.proofs.Bytes.Within.{entries-some}
use Rattle.spec.proofs.Bytes.Sizes.{terms-size}
use Rattle.spec.proofs.Lists.Stores.{sets-next, stored-front}
use Rattle.outcomes.proofs.Rooms.{answer-fits, witness-fits}
use Rattle.outcomes.proofs.Bounds.{book-bounds}
use Rattle.codes.specs.Code.{term_code, subgoal_codes, widths_of}
use Rattle.codes.proofs.Padded.{codes-length, padded-length}
use Rattle.book_codes.specs.RowGiven.{RowOf, RowGiven}
use Rattle.book_codes.specs.RowsGiven.{RowsOf}
use Rattle.book_codes.specs.FewRows.{FewRowsOf}
use Rattle.book_codes.proofs.RowUse.{summary-few}
use Rattle.book_codes.proofs.SummaryRows.{summary-rows}
use Rattle.witness.specs.ThereTold.{WitnessNeeds, ThereOf, ThereSays}
use Rattle.witness.specs.BackTold.{BackOf, BackSays}
use Rattle.answer.specs.Bytes.{rewriting_bytes, RuleBytesNeeds}
use Rattle.answer.specs.Steps.{PutNeeds}
use Rattle.answer.proofs.Means.{RowWithin, rewriting-means}

module _ {answer witness : ℕ} (room : Fault1 answer witness → ⊥) where
  pub answer-room : answer_room ≤ answer
  answer-room = elim (dec_lt answer answer_room) [
    | yes h ↦ absurd (room (inl h))
    | no h ↦ omega arith
  ]

  pub witness-room : witness_room ≤ witness
  witness-room = elim (dec_lt witness witness_room) [
    | yes h ↦ absurd (room (inr h))
    | no h ↦ omega arith
  ]

-- no width is above 8
small-widths : (l : List (Subgoal (Term ℕ))) → ((g : Subgoal (Term ℕ)) → g ∈ l → length g.terms ≤ 8) → (r : ℕ) → get_or (widths_of l) r 0 ≤ 8
small-widths [] h r = omega arith
small-widths (g ∷ l) h zero = h g (Memᴰ.head refl)
small-widths (g ∷ l) h (suc r) = small-widths l (λ k m. h k (Memᴰ.tail m)) r

module _ {book codes widths : List ℕ} {answer witness : ℕ} (p : PutNeeds book codes widths answer witness) where
  abbrev b : Book
  b = p.value

  abbrev l : List (Subgoal (Term ℕ))
  l = p.list

  counted : length l ≡ length widths
  counted = sym (ap length p.widths_are ∙ length-map l (λ g. length g.terms))

  rows_of : RowsOf book codes (length widths) b l
  rows_of = summary-rows b l p.sound p.answers.holds.rows counted (take_all (9 * length widths) codes (omega (arith, ap length p.codes_are, codes-length term_code l, counted)) ∙ p.codes_are)

  few-of : FewRowsOf book codes (length widths) b l
  few-of = record { rows_of = rows_of; few = omega (arith, counted, p.short) }

  pub tells : WitnessNeeds book codes (length widths)
  tells = record { some = record { value = b; list = l; is = few-of }; serves = p.answers.holds.equivalent }

  pub question-there : Loads book × (1 < entries_in book)
  question-there = (book-loads p.sound, entries-some book)

  -- a row can be written
  row-writes : (g : Subgoal (Term ℕ)) → g ∈ l → RowWithin g
  row-writes g m = record { number = omega (arith, summary-few given); narrow = narrow; terms = rows_of.within.within g m }
    where
      nine : take 9 (subgoal_codes term_code g) ≡ subgoal_codes term_code g
      nine = take_all 9 (subgoal_codes term_code g) (omega (arith, padded-length 8 (map term_code g.terms)))

      row : RowOf book (subgoal_codes term_code g) b g
      row = record {
        sound = p.sound;
        over = let y = p.answers.holds.rows g m in record { rule = y.rule; admitted = y.admitted; long = ap length (sym y.yields.gives) ∙ length-map y.rule.head (becomes con y.yields.value) };
        within = rows_of.within.within g m;
        codes = nine;
      }

      given : RowGiven book (subgoal_codes term_code g)
      given = record { value = b; goal = g; is = row }

      narrow : length g.terms ≤ 8
      narrow =
          let y = p.answers.holds.rows g m in
          let s = ((book-bounds b p.sound.value).summaries g.relation y.rule y.admitted).short in
          omega (arith, row.over.long)

  body_is : {body : List ℕ} → body ≡ part_at book 1 → rule_bytes b.question ≡ body
  body_is e = sym (e ∙ question-part p.sound)

  pub writable : {body out : List ℕ} → body ≡ part_at book 1 → length out ≡ answer → RuleBytesNeeds out body codes widths
  writable {body} e same =
      let short = p.sound.value.question.within.short in
      let head : get_or body 0 0 ≡ length b.question.head = ap (λ y. get_or y 0 0) (sym (body_is e)) in
      let size = ap length (sym (body_is e)) in
      record {
        room = omega (arith, answer-room p.room);
        short = omega arith;
        head = omega (arith, terms-size b.question.head, length-append (terms_bytes b.question.head) (subgoals_bytes b.question.body));
        few = omega (arith, counted, p.short);
        rows = record {
          stand = omega (arith, ap length p.codes_are, codes-length term_code l, counted);
          narrow = λ r. subst (λ w. get_or w r 0 ≤ 8) (sym p.widths_are) (small-widths l (λ g m. (row-writes g m).narrow) r);
        };
      }

module _ {book codes widths : List ℕ} (a w : List ℕ) (p : PutNeeds book codes widths (length a) (length w)) where
  abbrev q : Rule ℕ
  q = p.value.question

  module _ {w₁ w₂ : List ℕ} {m n : ℕ} (there : ThereSays book codes (length widths) w w₁ m) (back : BackSays book codes (length widths) m w₁ w₂ n) where
    goes : ThereOf p.value p.list w w₁ m
    goes = there.is p.value p.list (few-of p) p.answers.holds.equivalent

    returns : BackOf p.value p.list m w₁ w₂ n
    returns = back.is p.value p.list (few-of p) p.answers.holds.equivalent

    abbrev result : Answered
    result = record { rows = p.list; there = goes.bytes; back = returns.bytes }

    abbrev given : Given book (length a) (length w)
    given = record { room = p.room; value = p.value; sound = p.sound; few = p.few; result = result; right = record { answers = p.answers; goes = goes.first; returns = returns.first } }

    witness-holds : w₂ ≡ at_front (witness_bytes result) w
    witness-holds =
        returns.written ∙ ap (λ x. sets x m returns.bytes) goes.written ∙ sets-next w 0 m goes.bytes returns.bytes (omega (arith, goes.long))
        ∙ stored-front (goes.bytes ++ returns.bytes) w (omega (arith, witness-fits given, witness-room p.room))

    module _ {a₁ body : List ℕ} {o : ℕ} (part : body ≡ part_at book 1) (stored : a₁ ≡ sets a 0 (rewriting_bytes body codes widths)) (long : o ≡ length (rewriting_bytes body codes widths)) where
      answer-is : rewriting_bytes body codes widths ≡ answer_bytes q result
      answer-is = rewriting-means q body codes widths p.list (body_is p part) (row-writes p) p.codes_are p.widths_are

      answer-holds : a₁ ≡ at_front (answer_bytes q result) a
      answer-holds = stored ∙ ap (sets a 0) answer-is ∙ stored-front (answer_bytes q result) a (omega (arith, answer-fits given, answer-room p.room))

      pub accepted : Accepted book a a₁ w w₂ o (m + n)
      accepted = record {
        given = given;
        answer_is = answer-holds;
        witness_is = witness-holds;
        answer_long = long ∙ ap length answer-is;
        witness_long = omega (arith, goes.long, returns.long, length-append goes.bytes returns.bytes);
      }

-- both parts are short
pub lengths-fit : {book codes widths : List ℕ} {answer witness : ℕ} (p : PutNeeds book codes widths answer witness) {w w₁ w₂ : List ℕ} {m n : ℕ} → ThereSays book codes (length widths) w w₁ m → BackSays book codes (length widths) m w₁ w₂ n → (m ≤ 24) × (n ≤ 96)
lengths-fit p there back = ((there.is p.value p.list (few-of p) p.answers.holds.equivalent).few, (back.is p.value p.list (few-of p) p.answers.holds.equivalent).few)

-- there is room left behind the first part
pub there-kept : {book codes widths : List ℕ} {answer : ℕ} (w : List ℕ) (p : PutNeeds book codes widths answer (length w)) {w₁ : List ℕ} {m : ℕ} → ThereSays book codes (length widths) w w₁ m → m + 96 ≤ length w₁
there-kept w p {w₁} {m} there =
    let t = there.is p.value p.list (few-of p) p.answers.holds.equivalent in
    let few = t.few in
    omega (arith, witness-room p.room, ap length t.written, length-sets w 0 t.bytes)
