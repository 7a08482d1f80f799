-- What a sheet says, and what that means in the words of the promises.
use Rattle.std.specs.Prelude.{◌≡◌, List, ℕ}
use Rattle.spec.specs.Refresh.{Lead, lead}
use Rattle.spec.specs.Refusals.{of_entry}
use Rattle.spec.specs.Table.{Fault1, RewriterRefusal}
use Rattle.spec.specs.Given.{Given, answer_bytes, witness_bytes}

-- The bytes of a book, and those of its answer and its witness, or number and place of its refusal; or a need, a stamp, and the stamp's lead.
pub data Sheet : Type 0 where
  accepts : List ℕ → List ℕ → List ℕ → Sheet
  refuses : List ℕ → ℕ → ℕ → Sheet
  leads : ℕ → ℕ → Lead → Sheet

-- The book is given just these bytes for its answer and for its witness; the areas are n and m bytes long.
pub record GivenAs (book answer witness : List ℕ) (n m : ℕ) : Type 0 where
  pub given : Given book n m
  pub answer_is : answer_bytes given.value.question given.result ≡ answer
  pub witness_is : witness_bytes given.result ≡ witness

-- What the sheet says comes true, whatever areas are lent that are long enough ("answer area below 534 bytes, or witness area below 120" is number 1).
abbrev pub ComesTrue : Sheet → Type 0
ComesTrue (accepts book answer witness) = (n m : ℕ) → (Fault1 n m → ⊥) → GivenAs book answer witness n m
ComesTrue (refuses book number place) = (n m : ℕ) → (Fault1 n m → ⊥) → RewriterRefusal book n m (of_entry number place)
ComesTrue (leads need stamp l) = lead need stamp ≡ l
