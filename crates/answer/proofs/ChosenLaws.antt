-- The rows chosen, picked out of the codes of all: what is then written is the answer.
use mathlib.Core.Path.{◌≡◌, sym, ap, ◌∙◌}
use mathlib.Core.List.{List}
use Prim.Native.Nat.{ℕ, ◌+◌, ◌*◌, ◌<◌, ◌≤◌}
use native.Mathlib.Omega.{arith}
use lib.ListN.{length, get_or, length-append, length-map}
use Rattle.spec.specs.Words.{◌∈◌, Term, con, Subgoal, becomes}
use Rattle.spec.specs.Summaries.{SummaryRow}
use Rattle.spec.specs.Book.{Book, admitted_of}
use Rattle.spec.specs.BookLayout.{SoundBook}
use Rattle.spec.specs.Table.{Fault9}
use Rattle.spec.proofs.Decided.Rows.{RowList, all_rows, all_rows-sound}
use Rattle.spec.proofs.Lists.At.{get_or-in}
use Rattle.choice_theory.specs.Numbered.{row_at, rows_at}
use Rattle.outcomes.proofs.Bounds.{book-bounds}
use Rattle.outcomes.proofs.Grants.{value-safe}
use Rattle.outcomes.proofs.Total.{fault-9}
use Rattle.codes.specs.Code.{term_code, codes_of}
use Rattle.codes.proofs.Padded.{codes-length}
use Rattle.first_shortest.specs.Chosen.{numbers_of}
use Rattle.first_shortest.specs.declared.Chosen.{Chosen}
use Rattle.row_choice.specs.Asked.{ChoiceNeedsOf}
use Rattle.answer.specs.Picked.{picked_codes, picked_widths, PickNeeds}
use Rattle.answer.specs.Steps.{PutNeeds, AnswerNeeds}
use Rattle.answer.proofs.PickMeans.{picked-means, widths-mean}

-- a summary row is at most as wide as a head
pub row-narrow : {book : List ℕ} (b : Book) → SoundBook book b → (g : Subgoal (Term ℕ)) → SummaryRow (admitted_of b) b.question g → length g.terms ≤ 8
row-narrow b sound g y =
    let s = ((book-bounds b sound.value).summaries g.relation y.rule y.admitted).short in
    let e : length g.terms ≡ length y.rule.head = ap length (sym y.yields.gives) ∙ length-map y.rule.head (becomes con y.yields.value) in
    omega arith

-- at most 64 rows: no fault 9
pub few-rows : {book rows : List ℕ} {n : ℕ} (b : Book) → ChoiceNeedsOf book rows n b → Fault9 (admitted_of b) b.question → ⊥
few-rows b a f = let m = (fault-9 (admitted_of b) b.question (value-safe a.sound.value)).0 f in let c = a.count in let s = a.few in omega arith

module _ {book rows : List ℕ} {n : ℕ} {chosen : Chosen} {answer witness : ℕ} (p : AnswerNeeds book rows n chosen answer witness) where
  abbrev b : Book
  b = p.asked.value

  abbrev asked : ChoiceNeedsOf book rows n b
  asked = p.asked.is

  abbrev all : RowList
  all = all_rows (admitted_of b) b.question

  abbrev k : ℕ
  k = chosen.k

  abbrev list : RowList
  list = rows_at all (numbers_of chosen)

  narrow : (g : Subgoal (Term ℕ)) → g ∈ all → length g.terms ≤ 8
  narrow g m = row-narrow b asked.sound g (all_rows-sound (admitted_of b) b.question g m)

  abbrev numbers : List ℕ
  numbers = numbers_of chosen

  pub pickable : {out widths : ℕ} → out ≡ 9 * k → widths ≡ k → PickNeeds rows numbers out widths
  pickable wide many = record { stand = stand; room = wide ∙ ap (λ n. 9 * n) (sym p.found.count); told = many ∙ sym p.found.count }
    where
      stand : (i : ℕ) → i < length numbers → 9 * get_or numbers i 0 + 9 ≤ length rows
      stand i h = omega (arith, p.found.within (get_or numbers i 0) (get_or-in 0 numbers i h), ap length asked.codes, length-append (codes_of term_code all) asked.rest, codes-length term_code all)

  pub puts : {codes widths : List ℕ} → codes ≡ picked_codes rows numbers → widths ≡ picked_widths rows numbers → PutNeeds book codes widths answer witness
  puts stored told = record {
    value = b;
    sound = asked.sound;
    few = few-rows b asked;
    room = p.room;
    list = list;
    answers = p.found.answer;
    short = let f = p.found.few in omega (arith, length-map numbers (row_at all), p.found.count);
    codes_are = stored ∙ ap (λ x. picked_codes x numbers) asked.codes ∙ picked-means all asked.rest numbers p.found.within;
    widths_are = told ∙ ap (λ x. picked_widths x numbers) asked.codes ∙ widths-mean all asked.rest narrow numbers p.found.within;
  }
