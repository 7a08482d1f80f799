-- The room for a book, and what is said of an answer that is Ok, whatever it is.
use Rattle.std.proofs.Common.{ℕ, ◌≤◌, OnOk, Ok, Err, Result, arith}
use Rattle.spec.specs.Refusals.{longest}
use Rattle.console.specs.Books.{book_room}

pub within-room : (n : ℕ) → n ≤ 25041 → n ≤ book_room
unfolding longest
within-room n l = omega arith

pub on-ok : {T E P : Type 0} → (r : Result T E) → P → OnOk r P
on-ok (Ok x) p = p
on-ok (Err e) p = tt
