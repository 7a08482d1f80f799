-- The uses of all rows, as the targets that are lent.
use mathlib.Core.Path.{sym, ap, ◌∙◌}
use mathlib.Core.List.{List}
use Prim.Native.Nat.{ℕ, ◌*◌, ◌≤◌}
use native.Mathlib.Omega.{arith}
use lib.ListN.{length, take, drop}
use lib.Seq.{take_at}
use Rattle.spec.specs.Summaries.{uses, joined}
use Rattle.spec.specs.Book.{admitted_of}
use Rattle.choice_theory.specs.Placed.{owners}
use Rattle.outcomes.proofs.Bounds.{book-bounds}
use Rattle.codes.specs.Code.{own_code, codes_of}
use Rattle.codes.proofs.Padded.{codes-length}
use Rattle.book_codes.specs.RowsGiven.{RowsGiven}
use Rattle.book_codes.specs.AllUses.{GoalsCounted, AllCodes, AllOwners}
use Rattle.search_meaning.proofs.InUse.{uses-few}
use Rattle.search_meaning.proofs.Owners.{owners-long}
use Rattle.row_choice.specs.Targets.{Targets, Owners}

module _ {book rows : List ℕ} {n goals : ℕ} where
  pub goals-few : RowsGiven book rows n → n ≤ 64 → GoalsCounted book rows n goals → goals ≤ 512
  goals-few g few counted =
      let b = g.value in
      let c = g.is.count in
      omega (arith, counted.is b g.list g.is, uses-few b.arities (admitted_of b) b.question (book-bounds b g.is.sound.value) 0 g.list g.is.within)

  module _ (counted : GoalsCounted book rows n goals) where
    pub all-targets : {before target : List ℕ} → AllCodes book rows n own_code before target → Targets book rows n (take (9 * goals) target)
    all-targets {before} codes = record {
      is = λ b l w.
          let m = joined (uses (admitted_of b) 0 l) in
          ap (take (9 * goals)) (codes.is b l w) ∙ take_at (codes_of own_code m) (drop (length (codes_of own_code m)) before) (9 * goals) (codes-length own_code m ∙ ap (λ k. 9 * k) (sym (counted.is b l w)));
    }

    pub all-owners : {old own : List ℕ} → AllOwners book rows n old own → Owners book rows n (take goals own)
    all-owners {old} owned = record {
      is = λ b l w.
          let ls = uses (admitted_of b) 0 l in
          ap (take goals) (owned.is b l w) ∙ take_at (owners 0 ls) (drop (length (owners 0 ls)) old) goals (owners-long 0 ls ∙ sym (counted.is b l w));
    }
