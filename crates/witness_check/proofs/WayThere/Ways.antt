-- The first part: places that are followed are those of a mapping, and so the bytes that name them are that part of a witness.
use mathlib.Core.Path.{◌≡◌, sym, ap, ◌∙◌, subst}
use mathlib.Core.Bool.{Bool, true, false}
use mathlib.Core.Logic.{◌↔◌}
use mathlib.Core.List.{List}
use Prim.Native.Nat.{ℕ, ◌+◌, ◌*◌, ◌<◌, ◌≤◌}
use native.Mathlib.Omega.{arith}
use lib.ListN.{length, get_or, take}
use lib.Seq.{length-take-le, get_or-take}
use Rattle.spec.specs.Words.{Term, Subgoal}
use Rattle.spec.specs.Summaries.{Own, rewriting, uses, joined}
use Rattle.spec.specs.Answer.{There}
use Rattle.spec.specs.Book.{Book, admitted_of}
use Rattle.outcomes.proofs.Rooms.{there-long}
use Rattle.book_codes.specs.Insides.{starts}
use Rattle.book_codes.specs.Question.{SomeSound, QuestionSource, QuestionBound}
use Rattle.book_codes.proofs.ThereTask as there
use Rattle.bits.proofs.Laws.{exactly-no}
use Rattle.task.specs.Mapped.{Mapped}
use Rattle.task.specs.Follows.{Follows}
use Rattle.search_meaning.specs.Uses.{pairs_of}
use Rattle.search_meaning.proofs.Owners.{uses-long}
use Rattle.search_meaning.proofs.Pairs.{pairs-places}
use Rattle.witness_check.specs.WayThere.Places.{PairNames, PairPlaces}
use Rattle.witness_check.specs.WayThere.Steps.{BegunUsesOf, ThereAlongNeeds}
use Rattle.witness_check.proofs.WayThere.Named.{Pointed, pairs-named, names-each, named-pairs}

-- A part of another length is none.
pub there-short : {book target own begins : List ℕ} {k : ℕ} (b : Book) (l : List (Subgoal (Term ℕ))) → BegunUsesOf book target own begins k b l → {before after old new : List ℕ} {n : ℕ} → QuestionSource book before after old new n
    → {witness : List ℕ} → (length witness ≡ 2 * n → ⊥) → (false ≡ true) ↔ There (admitted_of b) b.question (rewriting b.question l) witness
there-short b l o source {witness} h = exactly-no (λ t. h (omega (arith, there-long (admitted_of b) b.question (rewriting b.question l) witness t, source.count b o.targets.list.sound)))

-- The way there.
module _ {book target own begins : List ℕ} {k : ℕ} (b : Book) (l : List (Subgoal (Term ℕ))) (o : BegunUsesOf book target own begins k b l)
    {before after old new : List ℕ} {n : ℕ} (source : QuestionSource book before after old new n) {bound : List ℕ} (heads : QuestionBound book bound) where
  abbrev ls : List (List (Subgoal (Term (Own ℕ))))
  ls = uses (admitted_of b) 0 l

  abbrev Goes : List ℕ → Type 0
  Goes = There (admitted_of b) b.question (rewriting b.question l)

  abbrev Maps : List ℕ → Type 0
  Maps = Mapped (there.lent b l o.targets source heads) bound

  count : length ls ≡ k
  count = uses-long (admitted_of b) 0 l ∙ o.count

  reads : (u : ℕ) → u ≤ length ls → get_or begins u 0 ≡ get_or (starts 0 ls) u 0
  reads u h = sym (get_or-take (k + 1) begins u 0 (omega (arith, count))) ∙ ap (λ m. get_or m u 0) o.begin

  within : (places : List ℕ) → Maps places → (i : ℕ) → i < length places → get_or places i 0 < length (joined ls)
  within places m i h = omega (arith, (m.lands i (omega (arith, m.long))).within, there.owned b l o.targets source heads)

  -- bytes that are the first part name some mapping's places
  named : (witness : List ℕ) → Goes witness → (places : List ℕ) × (pairs_of ls places ≡ witness) × Maps places
  named witness t =
      let w = pairs-places ls witness t.targets t.named in
      (w.0, w.1, (there.there-mapped b l o.targets source heads w.0).1 (subst Goes (sym w.1) t))

  module _ {witness ks : List ℕ} {r : Bool} (f : Follows (there.lent b l o.targets source heads) bound ks r) (p : PairPlaces witness begins k n ks) (long : length witness ≡ 2 * n) where
    taken : length (take n ks) ≡ n
    taken = length-take-le n ks (omega (arith, p.long, there.few-goals b l o.targets source heads))

    pointed : Pointed ls begins reads witness (take n ks)
    pointed i h =
        let less : i < n = omega (arith, taken) in
        subst (λ m. PairNames witness begins m i (get_or (take n ks) i 0)) (sym count)
        (subst (PairNames witness begins k i) (sym (get_or-take n ks i 0 less)) (p.at i less))

    exactly : (r ≡ true) ↔ Maps (take n ks)
    exactly = subst (λ m. (r ≡ true) ↔ Maps (take m ks)) (there.goals-are b l o.targets source heads) f.exactly

    pub there-followed : (r ≡ true) ↔ Goes witness
    there-followed = (
      λ e. let m = exactly.0 e in
          subst Goes (pairs-named ls begins reads witness (take n ks) (omega (arith, taken)) pointed) ((there.there-mapped b l o.targets source heads (take n ks)).0 m),
      λ t. let w = named witness t in
          let same = named-pairs ls begins reads w.0 (take n ks) (omega (arith, w.2.long, there.goals-are b l o.targets source heads, taken)) (within w.0 w.2) (subst (λ x. Pointed ls begins reads x (take n ks)) (sym w.1) pointed) in
          exactly.1 (subst Maps same w.2),
    )

  -- A pair that names nothing stands in no such part.
  pub there-unnamed : {witness : List ℕ} → (i : ℕ) × (i < n) × ((place : ℕ) → PairNames witness begins k i place → ⊥) → (false ≡ true) ↔ Goes witness
  there-unnamed {witness} z = exactly-no (λ t.
      let w = named witness t in
      let less : z.0 < length w.0 = omega (arith, z.1, w.2.long, there.goals-are b l o.targets source heads) in
      z.2 (get_or w.0 z.0 0) (subst (λ m. PairNames witness begins m z.0 (get_or w.0 z.0 0)) count (subst (λ x. PairNames x begins (length ls) z.0 (get_or w.0 z.0 0)) w.1 (names-each ls begins reads w.0 (within w.0 w.2) z.0 less))))

pub stood-sound : {book target own begins : List ℕ} {k : ℕ} → ThereAlongNeeds book target own begins k → SomeSound book
stood-sound o = record { value = o.value; sound = o.is.targets.list.sound }
