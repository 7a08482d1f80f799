-- Any two results that meet the promise are the same.
use mathlib.Core.Path.{◌≡◌}
use mathlib.Core.List.{List}
use Rattle.std.specs.Prelude.{Option}
use Prim.Native.Nat.{ℕ}
use Rattle.spec.specs.Book.{admitted_of}
use Rattle.spec.proofs.Decided.Rows.{all_rows, all_rows-enumerate}
use Rattle.outcomes.proofs.Bounds.{book-bounds}
use Rattle.first_shortest.specs.declared.Chosen.{Chosen}
use Rattle.first_shortest.proofs.Unique.{chosen-by-once}
use Rattle.row_choice.specs.Asked.{ChoiceNeeds, RowChoiceSays}

pub rows-chosen-once : {book rows : List ℕ} {n : ℕ} (a : ChoiceNeeds book rows n) (r o : Option Chosen) → RowChoiceSays book rows n r → RowChoiceSays book rows n o → r ≡ o
rows-chosen-once a r o c d =
    let s = admitted_of a.value in
    let q = a.value.question in
    let all = all_rows-enumerate s q (book-bounds a.value a.is.sound.value).safe in
    chosen-by-once s q (all_rows s q) all.rising r o (c.by a.value a.is) (d.by a.value a.is)
