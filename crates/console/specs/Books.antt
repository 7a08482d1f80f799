-- What is read of an input whose bytes are known.
use Rattle.std.specs.Prelude.{◌≡◌, List, ℕ, ◌+◌, ◌≤◌, length, Option}
use Rattle.std.specs.Int.{w32, from_le_bytes}
use Rattle.std.specs.Io.KnownBytes.{Consumes}
use Rattle.spec.specs.Refusals.{longest}

-- "The longest sound book has 25,040 bytes", and one byte more
abbrev pub book_room : ℕ
book_room = longest + 1

-- A size of four bytes, the lowest first, was taken from the front.
pub record SizeRead (before after : Option (List ℕ)) (size : ℕ) : Type 0 where
  pub bytes : List ℕ
  pub four : length bytes ≡ 4
  pub is : size ≡ from_le_bytes w32 bytes
  pub came : Consumes before after bytes

-- The book is what stands behind its size, at most as long as that says and as there is room for.
pub record BookRead (before : Option (List ℕ)) (book : List ℕ) : Type 0 where
  pub size : ℕ
  pub behind : Option (List ℕ)
  pub after : Option (List ℕ)
  pub sized : SizeRead before behind size
  pub came : Consumes behind after book
  pub fits : length book ≤ size
  pub room : length book ≤ book_room
