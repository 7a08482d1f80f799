-- What the answer on a whole book says, case by case.
use Rattle.std.specs.Prelude.{◌≡◌, List, ℕ, Result, Ok, Err}
use Rattle.spec.specs.Book.{Book}
use Rattle.spec.specs.BookLayout.{SoundBook}
use Rattle.spec.specs.Refusals.{of_book, Refusal}
use Rattle.spec.specs.Told.{told_of}
use Rattle.spec.specs.declared.Reason.{Reason}
use Rattle.spec.specs.declared.Refused.{Refused}

-- `Ok`: the bytes are the layout of a sound book's value. `Err e`: the refusal table's.
abbrev pub ReadingSays : List ℕ → Result Unit Refused → Type 0
ReadingSays book (Ok _) = (b : Book) × SoundBook book b
ReadingSays book (Err e) = Refusal book (told_of e)

-- The same for callers in C: a sound book is number 0 at place 0, which is in no row of the table.
abbrev pub c_answer : Result Unit Refused → Reason
c_answer (Ok _) = of_book 0
c_answer (Err e) = told_of e

pub record ToldSays (book : List ℕ) (told : Reason) : Type 0 where
  pub reading : Result Unit Refused
  pub says : ReadingSays book reading
  pub is : told ≡ c_answer reading
