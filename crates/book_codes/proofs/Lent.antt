-- The question's codes in areas that were empty before, as they are lent on.
use mathlib.Core.Path.{◌≡◌, sym, ap, ◌∙◌}
use mathlib.Core.List.{List}
use Prim.Native.Nat.{ℕ, ◌*◌, ◌≤◌}
use native.Mathlib.Omega.{arith}
use lib.ListN.{length, take, length-map}
use Rattle.spec.specs.Words.{Term, Subgoal}
use Rattle.spec.specs.Book.{Book}
use Rattle.spec.specs.BookLayout.{SoundBook}
use Rattle.codes.specs.Code.{slot_code, term_code, codes_of, widths_of}
use Rattle.codes.proofs.Padded.{codes-length}
use Rattle.rule_codes.proofs.Stores.{front_length, front-again}
use Rattle.book_codes.specs.Question.{QuestionSource, QuestionTarget}

module _ {book : List ℕ} (b : Book) (sound : SoundBook book b) where
  abbrev body : List (Subgoal (Term ℕ))
  body = b.question.body

  module _ {before after old new : List ℕ} {n : ℕ} (s : QuestionSource book before after old new n) where
    pub goals-few : n ≤ 12
    goals-few = omega (arith, s.count b sound, sound.value.question.within.few)

    pub source-long : 108 ≤ length before → length after ≡ length before
    source-long wide = ap length (s.codes b sound) ∙ front_length (codes_of slot_code body) before (omega (arith, codes-length slot_code body, s.count b sound, goals-few))

    widths-count : length (widths_of body) ≡ n
    widths-count = length-map body _ ∙ sym (s.count b sound)

    pub widths-long : 12 ≤ length old → length new ≡ length old
    widths-long wide = ap length (s.widths b sound) ∙ front_length (widths_of body) old (omega (arith, widths-count, goals-few))

    pub source-room : 108 ≤ length before → 9 * n ≤ length after
    source-room wide = omega (arith, goals-few, source-long wide)

    pub widths-room : 12 ≤ length old → n ≤ length new
    widths-room wide = omega (arith, goals-few, widths-long wide)

    pub source-codes : take (9 * n) after ≡ codes_of slot_code body
    source-codes = front-again (codes_of slot_code body) before after (9 * n) (s.codes b sound) (omega (arith, codes-length slot_code body, s.count b sound))

    pub source-widths : take n new ≡ widths_of body
    source-widths = front-again (widths_of body) old new n (s.widths b sound) widths-count

  module _ {before after : List ℕ} {n : ℕ} (t : QuestionTarget book before after n) where
    pub targets-few : n ≤ 12
    targets-few = omega (arith, t.count b sound, sound.value.question.within.few)

    pub target-long : 108 ≤ length before → length after ≡ length before
    target-long wide = ap length (t.codes b sound) ∙ front_length (codes_of term_code body) before (omega (arith, codes-length term_code body, t.count b sound, targets-few))

    pub target_room : 108 ≤ length before → 9 * n ≤ length after
    target_room wide = omega (arith, targets-few, target-long wide)

    pub target-codes : take (9 * n) after ≡ codes_of term_code body
    target-codes = front-again (codes_of term_code body) before after (9 * n) (t.codes b sound) (omega (arith, codes-length term_code body, t.count b sound))
