-- Any two results that meet a promise are the same: the book has one value, and the codes are one row's.
use mathlib.Core.Path.{◌≡◌, sym, ◌∙◌}
use mathlib.Core.List.{List}
use Prim.Native.Nat.{ℕ}
use Rattle.spec.specs.Words.{Term}
use Rattle.spec.specs.Summaries.{Own}
use Rattle.book_codes.specs.RowGiven.{RowGiven}
use Rattle.book_codes.specs.OneUse.{OneUse, OneCount, OneWidths}

module _ {book row : List ℕ} (w : RowGiven book row) where
  pub use-once : {code : Term (Own ℕ) → ℕ} {u : ℕ} {before after other : List ℕ} {n m : ℕ} → OneUse book row code u before after n → OneUse book row code u before other m → (n ≡ m) × (after ≡ other)
  use-once a b = (a.count w.value w.goal w.is ∙ sym (b.count w.value w.goal w.is), a.codes w.value w.goal w.is ∙ sym (b.codes w.value w.goal w.is))

  pub count-once : {n m : ℕ} → OneCount book row n → OneCount book row m → n ≡ m
  count-once a b = a.count w.value w.goal 0 w.is ∙ sym (b.count w.value w.goal 0 w.is)

  pub use-widths-once : {before after other : List ℕ} → OneWidths book row before after → OneWidths book row before other → after ≡ other
  use-widths-once a b = a.widths w.value w.goal 0 w.is ∙ sym (b.widths w.value w.goal 0 w.is)
