-- The rows' uses as they are lent from the areas that they were written to.
use mathlib.Core.Path.{◌≡◌, sym, ap, ◌∙◌}
use mathlib.Core.List.{List}
use Prim.Native.Nat.{ℕ, ◌*◌, ◌≤◌}
use native.Mathlib.Omega.{arith}
use lib.ListN.{length, take, length-map}
use Rattle.spec.specs.Words.{Term, Subgoal}
use Rattle.spec.specs.Summaries.{Own, uses, joined}
use Rattle.spec.specs.Book.{Book, admitted_of}
use Rattle.spec.specs.Given.{at_front}
use Rattle.choice_theory.specs.Placed.{owners}
use Rattle.outcomes.proofs.Bounds.{book-bounds}
use Rattle.codes.specs.Code.{own_code, codes_of, widths_of}
use Rattle.codes.proofs.Padded.{codes-length}
use Rattle.rule_codes.proofs.Stores.{front_length, front-again}
use Rattle.search_meaning.specs.Uses.{ends_of}
use Rattle.search_meaning.proofs.InUse.{uses-few}
use Rattle.search_meaning.proofs.Owners.{owners-long}
use Rattle.search_meaning.proofs.UseOf.{ends-long}
use Rattle.book_codes.specs.RowsGiven.{RowsGiven}
use Rattle.book_codes.specs.Insides.{insides}
use Rattle.book_codes.specs.AllUses.{GoalsCounted, AllCodes, AllOwners, AllInsides, AllWidths, AllEnds}
use Rattle.book_codes.specs.FewRows.{FewRowsOf, FewRows, ListOf}
use Rattle.book_codes.specs.UsesLent.{TargetUsesOf, InnerUsesOf, InnerUses}
use Rattle.book_codes.proofs.Read.{insides-long}

module _ {book rows : List ℕ} {k : ℕ} where
  pub rows-given : FewRows book rows k → RowsGiven book rows k
  rows-given t = record { value = t.value; list = t.list; is = t.is.rows_of }

  pub list_of : {b : Book} {l : List (Subgoal (Term ℕ))} → FewRowsOf book rows k b l → ListOf book b l
  list_of t = record { sound = t.rows_of.sound; within = t.rows_of.within; few = let f = t.few in omega (arith, t.rows_of.count) }

  module _ {n : ℕ} (counted : GoalsCounted book rows k n) where
    module _ (b : Book) (l : List (Subgoal (Term ℕ))) (t : FewRowsOf book rows k b l) where
      abbrev pub all : List (Subgoal (Term (Own ℕ)))
      all = joined (uses (admitted_of b) 0 l)

      pub many : n ≡ length all
      many = counted.is b l t.rows_of

      few-uses : n ≤ 96
      few-uses = let f = t.few in omega (arith, many, t.rows_of.count, uses-few b.arities (admitted_of b) b.question (book-bounds b t.rows_of.sound.value) 0 l t.rows_of.within)

    pub few-goals : FewRows book rows k → n ≤ 96
    few-goals t = few-uses t.value t.list t.is

    -- an area that has them at its front is as long as before
    front_long : FewRows book rows k → (before after front : List ℕ) → 96 ≤ length before → length front ≡ n → after ≡ at_front front before → length after ≡ length before
    front_long t before after front wide f e = ap length e ∙ front_length front before (omega (arith, few-goals t))

    module _ (t : FewRows book rows k) {before after : List ℕ} where
      pub codes-long : {code : Term (Own ℕ) → ℕ} → 864 ≤ length before → AllCodes book rows k code before after → length after ≡ length before
      codes-long {code} wide e = ap length (e.is t.value t.list t.is.rows_of) ∙ front_length (codes_of code (all t.value t.list t.is)) before (omega (arith, codes-length code (all t.value t.list t.is), many t.value t.list t.is, few-goals t))

      pub owners-kept : 96 ≤ length before → AllOwners book rows k before after → length after ≡ length before
      owners-kept wide e = front_long t before after (owners 0 (uses (admitted_of t.value) 0 t.list)) wide (owners-long 0 (uses (admitted_of t.value) 0 t.list) ∙ sym (many t.value t.list t.is)) (e.is t.value t.list t.is.rows_of)

      pub insides-kept : 96 ≤ length before → AllInsides book rows k before after → length after ≡ length before
      insides-kept wide e = front_long t before after (insides (uses (admitted_of t.value) 0 t.list)) wide (insides-long (uses (admitted_of t.value) 0 t.list) ∙ sym (many t.value t.list t.is)) (e.is t.value t.list t.is.rows_of)

      pub widths-kept : 96 ≤ length before → AllWidths book rows k before after → length after ≡ length before
      widths-kept wide e = front_long t before after (widths_of (all t.value t.list t.is)) wide (length-map (all t.value t.list t.is) _ ∙ sym (many t.value t.list t.is)) (e.is t.value t.list t.is.rows_of)

      pub ends-kept : 96 ≤ length before → AllEnds book rows k before after → length after ≡ length before
      ends-kept wide e = front_long t before after (ends_of (uses (admitted_of t.value) 0 t.list)) wide (ends-long (uses (admitted_of t.value) 0 t.list) ∙ sym (many t.value t.list t.is)) (e.is t.value t.list t.is.rows_of)

    -- as targets
    module _ {o₀ o w₀ w : List ℕ} (codes : AllCodes book rows k own_code w₀ w) (owns : AllOwners book rows k o₀ o) where
      pub targets_of : (b : Book) (l : List (Subgoal (Term ℕ))) → FewRowsOf book rows k b l → TargetUsesOf book (take (9 * n) w) (take n o) b l
      targets_of b l t = record {
        list = list_of t;
        codes = front-again (codes_of own_code (all b l t)) w₀ w (9 * n) (codes.is b l t.rows_of) (omega (arith, codes-length own_code (all b l t), many b l t));
        owns = front-again (owners 0 (uses (admitted_of b) 0 l)) o₀ o n (owns.is b l t.rows_of) (owners-long 0 (uses (admitted_of b) 0 l) ∙ sym (many b l t));
      }

    module _ {o₀ o w₀ w i₀ i : List ℕ} (codes : AllCodes book rows k own_code w₀ w) (owns : AllOwners book rows k o₀ o) (inners : AllInsides book rows k i₀ i) where
      pub onto-of : (b : Book) (l : List (Subgoal (Term ℕ))) → FewRowsOf book rows k b l → InnerUsesOf book (take (9 * n) w) (take n o) (take n i) b l
      onto-of b l t = record {
        targets = targets_of codes owns b l t;
        inners = front-again (insides (uses (admitted_of b) 0 l)) i₀ i n (inners.is b l t.rows_of) (insides-long (uses (admitted_of b) 0 l) ∙ sym (many b l t));
      }

      unfoldable pub onto : FewRows book rows k → InnerUses book (take (9 * n) w) (take n o) (take n i)
      onto t = record { value = t.value; list = t.list; is = onto-of t.value t.list t.is }
