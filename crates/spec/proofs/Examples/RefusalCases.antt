-- A table of books with what each is refused for, or that nothing turns it down: how a table is proved, and how its books are written.
use mathlib.Core.Path.{◌≡◌, ap}
use mathlib.Core.Bool.{Bool}
use mathlib.Core.Option.{Option, some, none}
use mathlib.Core.List.{List, [], ◌∷◌, ◌++◌, map}
use Prim.Native.Nat.{ℕ, zero, suc, ◌+◌, ◌*◌, ◌-◌}
use native.Mathlib.Omega.{arith}
use lib.ListN.{length, take, drop}
use lib.Dec.{T, ltb, ltb→lt}
use Rattle.spec.specs.Words.{◌∈◌}
use Rattle.spec.specs.Summaries.{joined}
use Rattle.spec.specs.Numbers.{Bytes}
use Rattle.spec.specs.declared.Reason.{Reason}
use Rattle.spec.specs.Refusals.{of_entry, Refusal}
use Rattle.spec.proofs.Lists.Tests.{every, every-sound, and_parts}
use Rattle.spec.proofs.Lists.Gathered.{same_map}
use Rattle.spec.proofs.Bytes.RefusedOnce.{refused-once, passes-unrefused}
use Rattle.spec.proofs.Bytes.RefusalTest.{refusal, Says, refusal-says}

pub record RefusalCase : Type 0 where
  pub book : List ℕ
  pub expected : Option Reason

-- number and place; nothing
abbrev pub refused : List ℕ → ℕ → ℕ → RefusalCase
refused book number place = record { book = book; expected = some (of_entry number place) }

abbrev pub passes : List ℕ → RefusalCase
passes book = record { book = book; expected = none }

abbrev pub computed : RefusalCase → Option Reason
computed c = refusal c.book

-- The bytes of a book from its bodies: the count of summaries; of each entry its place, its length and its stamp, 0 for the relations and 1 for all
-- others; the bodies. No number here is above 255.
abbrev contents_of : ℕ → ℕ → List (List ℕ) → List ℕ
contents_of at stamp [] = []
contents_of at stamp (b ∷ bs) = at ∷ 0 ∷ 0 ∷ 0 ∷ length b ∷ 0 ∷ 0 ∷ 0 ∷ stamp ∷ 0 ∷ 0 ∷ 0 ∷ contents_of (at + length b) 1 bs

abbrev pub book_of : List (List ℕ) → List ℕ
book_of bodies = (length bodies - 2) ∷ 0 ∷ contents_of (2 + 12 * length bodies) 0 bodies ++ joined bodies

-- another byte at a place
abbrev pub changed : ℕ → ℕ → List ℕ → List ℕ
changed at byte book = take at book ++ (byte ∷ drop (suc at) book)

abbrev pub are_bytes : List ℕ → Bool
are_bytes bs = every (λ b. ltb b 256) bs

pub bytes-sound : (bs : List ℕ) → T (are_bytes bs) → Bytes bs
bytes-sound [] h i = omega arith
bytes-sound (b ∷ bs) h zero = ltb→lt b 256 (and_parts (ltb b 256) (are_bytes bs) h).0
bytes-sound (b ∷ bs) h (suc i) = bytes-sound bs (and_parts (ltb b 256) (are_bytes bs) h).1 i

module _ (cases : List RefusalCase) (told : map computed cases ≡ map (λ c. c.expected) cases) (bytes : T (every (λ c. are_bytes c.book) cases)) where
  -- What the table says comes true, in the words of the definitions.
  pub cases-meant : (c : RefusalCase) → c ∈ cases → Says c.book c.expected
  cases-meant c m = rw (same_map computed (λ c. c.expected) cases told c m) at (refusal-says c.book (bytes-sound c.book (every-sound (λ c. are_bytes c.book) cases bytes c m)))

  -- No other number and no other place fits.
  pub cases-only : (c : RefusalCase) → c ∈ cases → {r : Reason} → Refusal c.book r → c.expected ≡ some r
  cases-only c m {r = why} x = go c.expected (cases-meant c m)
    where
      go : (o : Option Reason) → Says c.book o → o ≡ some why
      go none says = absurd (passes-unrefused c.book says x)
      go (some told) says = ap some (refused-once c.book says x)
