-- Demand 3 of what was returned on a book of bytes, and that a summary left out has no say.
use mathlib.Core.Path.{◌≡◌, sym, ap, ◌∙◌, subst}
use mathlib.Core.List.{List}
use Prim.Native.Nat.{ℕ}
use lib.ListN.{length, take}
use lib.Seq.{take_at}
use Rattle.spec.specs.Book.{Book, admitted_of}
use Rattle.spec.specs.Result.{Right}
use Rattle.spec.specs.Demand.{Gave, GaveNone}
use Rattle.spec.specs.LeftOut.{SameButLeftOut}
use Rattle.spec.specs.BookLayout.{SoundBook}
use Rattle.spec.specs.Table.{RewriterRefusal, one, read, nine, ten, Fault9}
use Rattle.spec.specs.Given.{answer_bytes, Given, at_front}
use Rattle.spec.specs.Rewriting.{Rewriting}
use Rattle.spec.specs.Refusals.{of_book}
use Rattle.spec.specs.declared.Reason.{Reason}
use Rattle.std.specs.Prelude.{Result, Ok, Err}
use Rattle.spec.specs.declared.Lengths.{Lengths}
use Rattle.spec.specs.declared.Refused.{Refused}
use Rattle.spec.specs.declared.Refused.TheVariants.{NoRewriting}
use Rattle.spec.proofs.Bytes.BookUnique.{book-unique}
use Rattle.spec.proofs.Bytes.Refused.{sound-unrefused}
use Rattle.containment.proofs.Alone.{left-out-no-say}
use Rattle.outcomes.proofs.Demand.{given-same, given-fewer, given-few, refused_all, left-out-nine, left-out-ten, moved_back}
use Rattle.rewriter.proofs.Unique.{rewriting-once}

pub gave : {book a a₁ w w₁ : List ℕ} {l : Lengths} → Rewriting book a a₁ w w₁ (Ok l) → Gave book a₁ l.answer
gave {a = a} {a₁} {l = l} x = let g = x.given in record {
  value = g.value;
  sound = g.sound;
  rows = g.result.rows;
  stands = ap (take l.answer) x.answer_is ∙ take_at (answer_bytes g.value.question g.result) _ l.answer (sym x.answer_long);
  answers = g.right.answers;
  same = given-same g;
  fewer = given-fewer g;
  few = given-few g;
}

-- "where the refusal is 10, every one of any length does"
pub gave-none : {book a a₁ w w₁ : List ℕ} → Rewriting book a a₁ w w₁ (Err NoRewriting) → GaveNone book
gave-none {book} x = none x.refused
  where
    none : {answer witness : ℕ} → RewriterRefusal book answer witness (of_book 10) → GaveNone book
    none (ten room b s few never) = record { value = b; sound = s; never = never; differ = refused_all b s never }
    none {answer = answer} {witness = witness} (read _ x5) = elim x5 [ ]

-- "A summary left out has no say": two books of bytes whose values differ in summaries left out alone.
module _ {book other : List ℕ} {b c : Book} (sound : SoundBook book b) (also : SoundBook other c)
    (question : b.question ≡ c.question) (need : b.need ≡ c.need) (left : SameButLeftOut b.need b.summaries c.summaries) where
  given-other : {answer witness : ℕ} (g : Given book answer witness) → Right (admitted_of c) c.question g.result
  given-other g = (left-out-no-say b c question need left g.result).0 (subst (λ v. Right (admitted_of v) v.question g.result) (book-unique g.sound sound) g.right)

  few-other : {answer witness : ℕ} (g : Given book answer witness) → Fault9 (admitted_of c) c.question → ⊥
  few-other {answer} {witness} g f = g.few (subst (λ v. Fault9 (admitted_of v) v.question) (sym (book-unique g.sound sound)) (moved_back sound also answer witness question need left Fault9 f))

  refused-other : {answer witness : ℕ} {r : Reason} → RewriterRefusal book answer witness r → RewriterRefusal other answer witness r
  refused-other (one f) = one f
  refused-other (read room r) = absurd (sound-unrefused sound r)
  refused-other {answer} {witness} (nine room v s f) = left-out-nine sound also answer witness question need left (nine room v s f)
  refused-other {answer} {witness} (ten room v s few never) = left-out-ten sound also answer witness question need left (ten room v s few never)

  says_other : (r : Result Lengths Refused) (a a₁ w w₁ : List ℕ) → Rewriting book a a₁ w w₁ r → Rewriting other a a₁ w w₁ r
  says_other (Ok l) a a₁ w w₁ x =
      let g = x.given in
      let e : g.value.question ≡ c.question = ap (λ (v : Book). v.question) (book-unique g.sound sound) ∙ question in
      record {
        given = record { room = g.room; value = c; sound = also; few = few-other g; result = g.result; right = given-other g };
        answer_is = x.answer_is ∙ ap (λ q. at_front (answer_bytes q g.result) a) e;
        witness_is = x.witness_is;
        answer_long = x.answer_long ∙ ap (λ q. length (answer_bytes q g.result)) e;
        witness_long = x.witness_long;
      }
  says_other (Err r) a a₁ w w₁ x = record { refused = refused-other x.refused; answer_stays = x.answer_stays; witness_stays = x.witness_stays }

  pub left-out-alike : (r r' : Result Lengths Refused) (a a₁ a₂ w w₁ w₂ : List ℕ) → Rewriting book a a₁ w w₁ r → Rewriting other a a₂ w w₂ r' → (r ≡ r') × (a₁ ≡ a₂) × (w₁ ≡ w₂)
  left-out-alike r r' a a₁ a₂ w w₁ w₂ x y = rewriting-once other a w r r' a₁ a₂ w₁ w₂ (says_other r a a₁ w w₁ x) y
