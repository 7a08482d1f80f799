-- Any two results that meet a promise are the same: the book has one value, and the codes one list of rows.
use mathlib.Core.Path.{◌≡◌, sym, ◌∙◌}
use mathlib.Core.List.{List}
use Prim.Native.Nat.{ℕ}
use Rattle.spec.specs.Words.{Term}
use Rattle.spec.specs.Summaries.{Own}
use Rattle.book_codes.specs.RowsGiven.{RowsGiven}
use Rattle.book_codes.specs.AllUses.{GoalsCounted, AllCodes, AllOwners, AllInsides, AllWidths, AllEnds, AllStarts}

module _ {book rows : List ℕ} {n : ℕ} (w : RowsGiven book rows n) where
  pub counted-once : {k m : ℕ} → GoalsCounted book rows n k → GoalsCounted book rows n m → k ≡ m
  counted-once a b = a.is w.value w.list w.is ∙ sym (b.is w.value w.list w.is)

  module _ {before after other : List ℕ} where
    pub codes-once : {code : Term (Own ℕ) → ℕ} → AllCodes book rows n code before after → AllCodes book rows n code before other → after ≡ other
    codes-once a b = a.is w.value w.list w.is ∙ sym (b.is w.value w.list w.is)

    pub owners-once : AllOwners book rows n before after → AllOwners book rows n before other → after ≡ other
    owners-once a b = a.is w.value w.list w.is ∙ sym (b.is w.value w.list w.is)

    pub insides-once : AllInsides book rows n before after → AllInsides book rows n before other → after ≡ other
    insides-once a b = a.is w.value w.list w.is ∙ sym (b.is w.value w.list w.is)

    pub widths-once : AllWidths book rows n before after → AllWidths book rows n before other → after ≡ other
    widths-once a b = a.is w.value w.list w.is ∙ sym (b.is w.value w.list w.is)

    pub ends-once : AllEnds book rows n before after → AllEnds book rows n before other → after ≡ other
    ends-once a b = a.is w.value w.list w.is ∙ sym (b.is w.value w.list w.is)

    pub starts-once : AllStarts book rows n before after → AllStarts book rows n before other → after ≡ other
    starts-once a b = a.is w.value w.list w.is ∙ sym (b.is w.value w.list w.is)
