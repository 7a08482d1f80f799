-- Each refusal, and what stays.
use mathlib.Core.Path.{◌≡◌, refl, subst}
use mathlib.Core.Logic.{inl, inr, ⊎_elim}
use mathlib.Core.List.{List}
use Prim.Native.Nat.{ℕ, ◌*◌, ◌<◌, ◌≤◌}
use native.Mathlib.Omega.{arith}
use lib.ListN.{length, drop}
use Rattle.spec.specs.Book.{admitted_of}
use Rattle.spec.specs.declared.Reason.{Reason}
use Rattle.spec.specs.Refusals.{of_book, Refusal}
use Rattle.spec.specs.Reading.{ReadingSays}
use Rattle.std.specs.Prelude.{Option, Some, None, Result, Ok, Err}
use Rattle.spec.specs.Told.{told_of}
use Rattle.spec.specs.declared.Refused.{Refused}
use Rattle.spec.specs.Table.{Fault1, RewriterRefusal, one, read, nine, ten, answer_room, witness_room}
use Rattle.spec.specs.Rewriting.{TurnedDown}
use Rattle.outcomes.proofs.Grants.{value-safe}
use Rattle.outcomes.proofs.Total.{fault-9}
use Rattle.row_list.specs.Listing.{ListNeeds, AllStand, RowsOver, ListedSays, ListSays}
use Rattle.first_shortest.specs.declared.Chosen.{Chosen}
use Rattle.first_shortest.specs.Chosen.{ChosenBy}
use Rattle.row_choice.specs.Asked.{RowChoiceSays}
use Rattle.spec.proofs.Decided.Rows.{all_rows}
use Rattle.answer.specs.Steps.{AnswerNeeds}
use Rattle.answer.proofs.ChosenLaws.{few-rows}
use Rattle.rewriter.specs.Steps.{SoundNeeds, ListedNeeds}

pub turned_down : {book a w : List ℕ} {r : Reason} → RewriterRefusal book (length a) (length w) r → TurnedDown book a a w w r
turned_down r = record { refused = r; answer_stays = refl; witness_stays = refl }

pub answer-short : {book : List ℕ} {answer witness : ℕ} → answer < answer_room → RewriterRefusal book answer witness (of_book 1)
answer-short h = one (inl h)

pub witness-short : {book : List ℕ} {answer witness : ℕ} → witness < witness_room → RewriterRefusal book answer witness (of_book 1)
witness-short h = one (inr h)

pub roomy : {answer witness : ℕ} → answer_room ≤ answer → witness_room ≤ witness → Fault1 answer witness → ⊥
roomy a w f = ⊎_elim (λ h. omega arith) (λ h. omega arith) f

pub not-read : {book : List ℕ} {answer witness : ℕ} {r : Reason} → answer_room ≤ answer → witness_room ≤ witness → Refusal book r → RewriterRefusal book answer witness r
not-read a w r = read (roomy a w) r

module _ {book : List ℕ} {answer witness : ℕ} (s : SoundNeeds book answer witness) where
  pub sought : {area : ℕ} → 576 ≤ area → ListNeeds book area
  sought h = record { value = s.value; sound = s.sound; room = omega arith }

  pub over-64 : {before after : List ℕ} → RowsOver (admitted_of s.value) s.value.question before after → RewriterRefusal book answer witness (of_book 9)
  over-64 t = nine s.room s.value s.sound ((fault-9 (admitted_of s.value) s.value.question (value-safe s.sound.value)).1 t.many)

  pub rowed : {before after : List ℕ} {n : ℕ} → AllStand (admitted_of s.value) s.value.question before after n → ListedNeeds book after n answer witness
  rowed {before} {n = n} t = record { asked = record { value = s.value; is = record { sound = s.sound; count = t.count; few = t.few; rest = drop (9 * n) before; codes = t.codes } }; room = s.room }

module _ {book rows : List ℕ} {n answer witness : ℕ} (w : ListedNeeds book rows n answer witness) {r : Option Chosen} (c : RowChoiceSays book rows n r) where
  abbrev Says : Option Chosen → Type 0
  Says = ChosenBy (admitted_of w.asked.value) w.asked.value.question (all_rows (admitted_of w.asked.value) w.asked.value.question)

  pub chosen-put : {chosen : Chosen} → r ≡ Some chosen → AnswerNeeds book rows n chosen answer witness
  chosen-put e = record { asked = w.asked; found = subst Says e (c.by w.asked.value w.asked.is); room = w.room }

  pub none-do : r ≡ None → RewriterRefusal book answer witness (of_book 10)
  none-do e = ten w.room w.asked.value w.asked.is.sound (few-rows w.asked.value w.asked.is) (subst Says e (c.by w.asked.value w.asked.is)).none

-- what the list of rows says, case by case
module _ {book : List ℕ} {answer witness : ℕ} (s : SoundNeeds book answer witness) {before after : List ℕ} {r : Option ℕ} (l : ListSays book before after r) where
  pub rows-listed : {n : ℕ} → r ≡ Some n → ListedNeeds book after n answer witness
  rows-listed e = rowed s (subst (ListedSays (admitted_of s.value) s.value.question before after) e (l.says s.value s.sound))

  pub rows-over : r ≡ None → RewriterRefusal book answer witness (of_book 9)
  rows-over e = over-64 s (subst (ListedSays (admitted_of s.value) s.value.question before after) e (l.says s.value s.sound))

-- what the reading says, case by case
module _ {book : List ℕ} {answer witness : ℕ} (a : 534 ≤ answer) (w : 120 ≤ witness) {r : Result Unit Refused} (says : ReadingSays book r) where
  pub read-sound : {u : Unit} → r ≡ Ok u → SoundNeeds book answer witness
  read-sound e = let v = subst (ReadingSays book) e says in record { value = v.0; sound = v.1; room = roomy a w }

  pub read-refused : {why : Refused} → r ≡ Err why → RewriterRefusal book answer witness (told_of why)
  read-refused e = not-read a w (subst (ReadingSays book) e says)
