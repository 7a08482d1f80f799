-- The way back as a task of the search: the codes of the uses are to be placed on the question's.
use mathlib.Core.Path.{◌≡◌, sym, ap, ◌∙◌, subst}
use mathlib.Core.Logic.{◌↔◌}
use mathlib.Core.List.{List, map}
use Prim.Native.Nat.{ℕ, suc, ◌*◌, ◌≤◌}
use native.Mathlib.Omega.{arith}
use lib.ListN.{length, take, replicate, length-map}
use lib.Seq.{length-take-le}
use Rattle.spec.specs.Words.{Term, Subgoal, Mapping}
use Rattle.spec.specs.Summaries.{Summaries, Own, rewriting, uses, joined, expansion}
use Rattle.spec.specs.Answer.{Back, FirstBack}
use Rattle.spec.specs.Book.{Book, admitted_of}
use Rattle.spec.proofs.Lists.Zeros.{zeros-at}
use Rattle.outcomes.specs.Bounds.{Bounds}
use Rattle.outcomes.proofs.Bounds.{book-bounds}
use Rattle.task.specs.Task.{Task, posed, Sized}
use Rattle.task.specs.Mapped.{Mapped, FirstMapped}
use Rattle.search_meaning.specs.HeadBound.{HeadBound}
use Rattle.search_meaning.specs.Tasks.{back_task}
use Rattle.search_meaning.proofs.InUse.{uses-few}
use Rattle.search_meaning.proofs.Back.{back-sized, back_is, back-first, back_some}
use Rattle.book_codes.specs.Question.{SomeSound, QuestionTarget, QuestionBound}
use Rattle.book_codes.specs.UsesLent.{SourceUsesOf, SourceUses}
use Rattle.book_codes.proofs.Lent.{targets-few, target-codes}

pub some-sound : {book source widths lasts : List ℕ} → SourceUses book source widths lasts → SomeSound book
some-sound o = record { value = o.value; sound = o.is.list.sound }

module _ {book source widths lasts : List ℕ} (b : Book) (l : List (Subgoal (Term ℕ))) (o : SourceUsesOf book source widths lasts b l)
    {before after : List ℕ} {n : ℕ} (target : QuestionTarget book before after n) {bound : List ℕ} (heads : QuestionBound book bound) where
  abbrev s : Summaries
  s = admitted_of b

  abbrev ls : List (List (Subgoal (Term (Own ℕ))))
  ls = uses s 0 l

  abbrev own : List ℕ
  own = take n (replicate 12 0)

  abbrev pub lent : Task
  lent = posed source widths lasts (take (9 * n) after) own

  task-is : lent ≡ back_task s b.question l own
  task-is = λ i. record { source = o.codes i; widths = o.wide i; lasts = o.ends i; target = target-codes b o.list.sound target i; own = own }

  bounds : Bounds b.arities s b.question
  bounds = book-bounds b o.list.sound.value

  pub few-targets : n ≤ 12
  few-targets = targets-few b o.list.sound target

  pub own-long : length own ≡ n
  own-long = length-take-le n (replicate 12 0) few-targets

  owned : length own ≡ length b.question.body
  owned = own-long ∙ target.count b o.list.sound

  pub back-lent : Sized lent
  back-lent = subst Sized (sym task-is) (back-sized b.arities s b.question bounds l o.list.within own bound owned o.list.few (λ k. omega (arith, zeros-at n 12 k)))

  abbrev head : HeadBound b.question.head bound
  head = heads.is b o.list.sound

  pub all-few : length widths ≤ 96
  all-few = let f = o.list.few in omega (arith, ap length o.wide, length-map (joined ls) (λ g. length g.terms), uses-few b.arities s b.question bounds 0 l o.list.within)

  -- places are a mapping's exactly if they are the witness's second part
  pub back-mapped : (places : List ℕ) → Mapped lent bound places ↔ Back s b.question (rewriting b.question l) (map suc places)
  back-mapped places = subst (λ t. Mapped t bound places ↔ Back s b.question (rewriting b.question l) (map suc places)) (sym task-is) (back_is b.arities s b.question bounds l o.list.within own bound owned head places)

  -- where the uses map back, some places are a mapping's
  pub back-places : Mapping (expansion s (rewriting b.question l)) b.question → (m : List ℕ) × Mapped lent bound m
  back-places back = subst (λ t. (m : List ℕ) × Mapped t bound m) (sym task-is) ((back_some b.arities s b.question bounds l o.list.within own bound owned head).1 back)

  -- the first places are the second part of the witness
  pub back-firsts : (places : List ℕ) → FirstMapped lent bound places → FirstBack s b.question (rewriting b.question l) (map suc places)
  back-firsts places f = (back-first b.arities s b.question bounds l o.list.within own bound owned head places).0 (subst (λ t. FirstMapped t bound places) task-is f)
