-- Any two sets that meet the promise are the same.
use mathlib.Core.Path.{◌≡◌}
use mathlib.Core.List.{List}
use Prim.Native.Nat.{ℕ}
use Rattle.book_codes.specs.RowsGiven.{RowsGiven}
use Rattle.bits.proofs.Laws.{same-members}
use Rattle.row_choice.specs.Dominators.{DominatorsOf}

pub dominators-once : {book rows : List ℕ} {n : ℕ} (g : RowsGiven book rows n) {r : ℕ} (a b : ℕ) → DominatorsOf book rows n r a → DominatorsOf book rows n r b → a ≡ b
dominators-once g a b p q =
    let x = p.by g.value g.list g.is in
    let y = q.by g.value g.list g.is in
    same-members a b (λ d. (λ m. (y.exactly d).1 ((x.exactly d).0 m), λ m. (x.exactly d).1 ((y.exactly d).0 m)))
