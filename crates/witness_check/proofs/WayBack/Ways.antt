-- The second part: places that are followed are those of a mapping, and so the bytes that name them are that part of a witness.
use mathlib.Core.Path.{◌≡◌, sym, ap, ◌∙◌, subst}
use mathlib.Core.Bool.{Bool, true, false}
use mathlib.Core.Logic.{◌↔◌}
use mathlib.Core.List.{List, map}
use Prim.Native.Nat.{ℕ, suc, ◌<◌}
use native.Mathlib.Omega.{arith}
use lib.ListN.{length, get_or, take, length-map}
use lib.Seq.{length-take-le, get_or-take}
use Rattle.spec.specs.Words.{Term, Subgoal}
use Rattle.spec.specs.Summaries.{rewriting, uses, joined}
use Rattle.spec.specs.Answer.{Back}
use Rattle.spec.specs.Book.{Book, admitted_of}
use Rattle.outcomes.proofs.Rooms.{back_long}
use Rattle.book_codes.specs.Question.{QuestionTarget, QuestionBound}
use Rattle.book_codes.specs.UsesLent.{SourceUsesOf}
use Rattle.book_codes.proofs.BackTask as back
use Rattle.bits.proofs.Laws.{exactly-no}
use Rattle.task.specs.Mapped.{Mapped}
use Rattle.task.specs.Follows.{Follows}
use Rattle.search_meaning.proofs.Back.{places-from}
use Rattle.witness_check.specs.WayBack.Places.{BytePlaces}
use Rattle.witness_check.proofs.WayBack.Named.{bytes-named, named-bytes, no-zero}

-- A part of another length is none.
pub back-short : {book source widths lasts : List ℕ} (b : Book) (l : List (Subgoal (Term ℕ))) → SourceUsesOf book source widths lasts b l
    → {witness : List ℕ} → (length witness ≡ length widths → ⊥) → (false ≡ true) ↔ Back (admitted_of b) b.question (rewriting b.question l) witness
back-short b l o {witness} h = exactly-no (λ t. h (back_long (admitted_of b) b.question (rewriting b.question l) witness t ∙ sym (ap length o.wide ∙ length-map (joined (uses (admitted_of b) 0 l)) _)))

module _ {book source widths lasts : List ℕ} (b : Book) (l : List (Subgoal (Term ℕ))) (o : SourceUsesOf book source widths lasts b l) where
  abbrev Returns : List ℕ → Type 0
  Returns = Back (admitted_of b) b.question (rewriting b.question l)

  module _ {before after : List ℕ} {n : ℕ} (target : QuestionTarget book before after n) {bound : List ℕ} (heads : QuestionBound book bound) where
    abbrev MapsBack : List ℕ → Type 0
    MapsBack = Mapped (back.lent b l o target heads) bound

    returned : (witness : List ℕ) → Returns witness → (places : List ℕ) × (map suc places ≡ witness) × MapsBack places
    returned witness t =
        let w = places-from b.question.body witness t.targets t.named in
        (w.0, w.1, (back.back-mapped b l o target heads w.0).1 (subst Returns (sym w.1) t))

    module _ {witness ks : List ℕ} {r : Bool} (f : Follows (back.lent b l o target heads) bound ks r) (p : BytePlaces witness (length witness) ks) (long : length witness ≡ length widths) where
      all : length (take (length widths) ks) ≡ length widths
      all = length-take-le (length widths) ks (omega (arith, p.long, back.all-few b l o target heads))

      named : map suc (take (length widths) ks) ≡ witness
      named = bytes-named witness (take (length widths) ks) (omega (arith, all)) (λ i h. let less : i < length widths = omega (arith, all) in p.at i (omega arith) ∙ ap suc (sym (get_or-take (length widths) ks i 0 less)))

      pub back-followed : (r ≡ true) ↔ Returns witness
      back-followed = (
        λ e. subst Returns named ((back.back-mapped b l o target heads (take (length widths) ks)).0 (f.exactly.0 e)),
        λ t. let w = returned witness t in
            f.exactly.1 (subst MapsBack (named-bytes w.0 (take (length widths) ks) (w.1 ∙ sym named)) w.2),
      )

    -- A byte that names nothing stands in no such part.
    pub back-unnamed : {witness : List ℕ} → (i : ℕ) × (i < length witness) × (get_or witness i 0 ≡ 0) → (false ≡ true) ↔ Returns witness
    back-unnamed {witness} z = exactly-no (λ t.
        let w = returned witness t in
        no-zero w.0 z.0 (omega (arith, z.1, ap length w.1, length-map w.0 suc)) (ap (λ x. get_or x z.0 0) w.1 ∙ z.2))
