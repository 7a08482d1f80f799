-- What the answers of the loading say, case by case.
use Rattle.std.specs.Prelude.{◌≡◌, List, ℕ, Result, Ok, Err}
use Rattle.spec.specs.Contents.{count}
use Rattle.spec.specs.Refusals.{Loads, Refusal}
use Rattle.spec.specs.Told.{told_of}
use Rattle.spec.specs.declared.Refused.{Refused}

-- `Ok n`: the book passes 2 to 5, and n is its count of summaries. `Err e`: the refusal table's, at place 0, so that it is one of 2 to 5.
abbrev pub LoadSays : List ℕ → Result ℕ Refused → Type 0
LoadSays book (Ok n) = Loads book × (n ≡ count book)
LoadSays book (Err e) = Refusal book (told_of e) × ((told_of e).place ≡ 0)
