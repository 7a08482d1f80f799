-- The way there as a task of the search: the question's codes are to be placed on those of the uses.
use mathlib.Core.Path.{◌≡◌, sym, ap, ◌∙◌, subst}
use mathlib.Core.Logic.{◌↔◌}
use mathlib.Core.List.{List}
use Prim.Native.Nat.{ℕ, ◌*◌, ◌<◌, ◌≤◌}
use native.Mathlib.Omega.{arith}
use lib.ListN.{length, get_or, take, replicate, length-map}
use lib.Seq.{length-take-le}
use Rattle.spec.specs.Words.{Term, Subgoal, Mapping}
use Rattle.spec.specs.Summaries.{Summaries, Own, rewriting, uses, joined, expansion}
use Rattle.spec.specs.Answer.{There, FirstThere}
use Rattle.spec.specs.Book.{Book, admitted_of}
use Rattle.spec.specs.BookLayout.{question_most}
use Rattle.spec.specs.Table.{most_rows}
use Rattle.codes.specs.Code.{uses_goals}
use Rattle.outcomes.specs.Bounds.{Bounds}
use Rattle.outcomes.proofs.Bounds.{book-bounds}
use Rattle.task.specs.Task.{Task, posed, Sized}
use Rattle.task.specs.Mapped.{Mapped, FirstMapped}
use Rattle.search_meaning.specs.Uses.{pairs_of}
use Rattle.search_meaning.specs.HeadBound.{HeadBound}
use Rattle.search_meaning.specs.Tasks.{there_task}
use Rattle.search_meaning.proofs.Owners.{owners-long, owners-below}
use Rattle.search_meaning.proofs.InUse.{uses-few}
use Rattle.search_meaning.proofs.Into.{there-sized}
use Rattle.search_meaning.proofs.There.{there-is, there-first, there-some}
use Rattle.book_codes.specs.Question.{SomeSound, QuestionSource, QuestionBound}
use Rattle.book_codes.specs.UsesLent.{TargetUsesOf, InnerUses}
use Rattle.book_codes.proofs.Lent.{goals-few, source-codes, source-widths}

module _ {book target own : List ℕ} (b : Book) (l : List (Subgoal (Term ℕ))) (o : TargetUsesOf book target own b l)
    {before after old new : List ℕ} {n : ℕ} (source : QuestionSource book before after old new n) {bound : List ℕ} (heads : QuestionBound book bound) where
  abbrev s : Summaries
  s = admitted_of b

  abbrev ls : List (List (Subgoal (Term (Own ℕ))))
  ls = uses s 0 l

  abbrev lasts : List ℕ
  lasts = take n (replicate 12 0)

  abbrev pub lent : Task
  lent = posed (take (9 * n) after) (take n new) lasts target own

  task-is : lent ≡ there_task s b.question l lasts own
  task-is = λ i. record {
    source = source-codes b o.list.sound source i;
    widths = source-widths b o.list.sound source i;
    lasts = lasts;
    target = o.codes i;
    own = own;
  }

  bounds : Bounds b.arities s b.question
  bounds = book-bounds b o.list.sound.value

  pub owned : length own ≡ length (joined ls)
  owned = ap length o.owns ∙ owners-long 0 ls

  pub few-goals : n ≤ question_most
  few-goals = goals-few b o.list.sound source

  pub goals-are : length (take n new) ≡ n
  goals-are = ap length (source-widths b o.list.sound source) ∙ length-map b.question.body _ ∙ sym (source.count b o.list.sound)

  pub all-few : length (joined ls) ≤ uses_goals
  all-few = let f = o.list.few in omega (arith, uses-few b.arities s b.question bounds 0 l o.list.within)

  marked : length lasts ≡ length b.question.body
  marked = length-take-le n (replicate 12 0) few-goals ∙ source.count b o.list.sound

  pub own-small : (k : ℕ) → get_or own k 0 < most_rows
  own-small k = subst (λ m. get_or m k 0 < most_rows) (sym o.owns) (owners-below s l (let f = o.list.few in omega arith) k)

  pub there-lent : Sized lent
  there-lent = subst Sized (sym task-is) (there-sized b.arities s b.question bounds l o.list.within lasts own bound owned (let f = o.list.few in omega arith) marked own-small)

  abbrev head : HeadBound b.question.head bound
  head = heads.is b o.list.sound

  -- places are a mapping's exactly if their pairs are the witness's first part
  pub there-mapped : (places : List ℕ) → Mapped lent bound places ↔ There s b.question (rewriting b.question l) (pairs_of ls places)
  there-mapped places = subst (λ t. Mapped t bound places ↔ There s b.question (rewriting b.question l) (pairs_of ls places)) (sym task-is) (there-is b.arities s b.question bounds l o.list.within lasts own bound owned head places)

  -- where the question maps into the uses, some places are a mapping's
  pub there-places : Mapping b.question (expansion s (rewriting b.question l)) → (m : List ℕ) × Mapped lent bound m
  there-places there = subst (λ t. (m : List ℕ) × Mapped t bound m) (sym task-is) ((there-some b.arities s b.question bounds l o.list.within lasts own bound owned head).1 there)

  -- the first places are the first part of the witness
  pub there-firsts : (places : List ℕ) → FirstMapped lent bound places → FirstThere s b.question (rewriting b.question l) (pairs_of ls places)
  there-firsts places f = (there-first b.arities s b.question bounds l o.list.within lasts own bound owned head places).0 (subst (λ t. FirstMapped t bound places) task-is f)

pub some-sound : {book target own inner : List ℕ} → InnerUses book target own inner → SomeSound book
some-sound o = record { value = o.value; sound = o.is.targets.list.sound }
