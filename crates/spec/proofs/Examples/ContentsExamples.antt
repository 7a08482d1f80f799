-- Books that refusals 2 to 5 turn down, and books just within the bounds: one table, settled by computation.
use mathlib.Core.Path.{◌≡◌, refl}
use mathlib.Core.Logic.{inr, ⊎_elim}
use mathlib.Core.Option.{some}
use mathlib.Core.List.{List, [], ◌∷◌, ◌++◌, map}
use Prim.Native.Nat.{ℕ}
use native.Mathlib.Omega.{arith}
use lib.Dec.{T}
use lib.ListN.{length, take, replicate}
use Rattle.spec.specs.Words.{◌∈◌}
use Rattle.spec.specs.Numbers.{number_at}
use Rattle.spec.specs.BookLayout.{entries, contents_end}
use Rattle.spec.specs.Contents.{count, entries_in, offset_at, length_at, stamp_at, part_at}
use Rattle.spec.specs.declared.Reason.{Reason}
use Rattle.spec.specs.Refusals.{longest, of_book, Refusal, two}
use Rattle.spec.proofs.Lists.Tests.{every}
use Rattle.spec.proofs.Bytes.RefusedExactly.{refused-2}
use Rattle.spec.proofs.Bytes.RefusalTest.{Says}
use Rattle.spec.proofs.Examples.RefusalCases.{RefusalCase, refused, passes, computed, book_of, changed, are_bytes, cases-meant, cases-only}

-- arities 2, 1; (X0) from 0(X0,X1), 1(X1); summaries (A,B) from 0(A,B) and (A) from 1(A). 112 bytes.
abbrev pub plain : List ℕ
plain =
    2 ∷ 0
    ∷ 50 ∷ 0 ∷ 0 ∷ 0 ∷ 2 ∷ 0 ∷ 0 ∷ 0 ∷ 0 ∷ 0 ∷ 0 ∷ 0
    ∷ 52 ∷ 0 ∷ 0 ∷ 0 ∷ 24 ∷ 0 ∷ 0 ∷ 0 ∷ 1 ∷ 0 ∷ 0 ∷ 0
    ∷ 76 ∷ 0 ∷ 0 ∷ 0 ∷ 23 ∷ 0 ∷ 0 ∷ 0 ∷ 1 ∷ 0 ∷ 0 ∷ 0
    ∷ 99 ∷ 0 ∷ 0 ∷ 0 ∷ 13 ∷ 0 ∷ 0 ∷ 0 ∷ 1 ∷ 0 ∷ 0 ∷ 0
    ∷ 2 ∷ 1
    ∷ 1 ∷ 2 ∷ 0 ∷ 0 ∷ 0 ∷ 0 ∷ 0
    ∷ 0 ∷ 0 ∷ 0 ∷ 0 ∷ 0 ∷ 0 ∷ 0 ∷ 1 ∷ 0 ∷ 0 ∷ 0
    ∷ 1 ∷ 0 ∷ 1 ∷ 0 ∷ 0 ∷ 0
    ∷ 2 ∷ 1 ∷ 0 ∷ 0 ∷ 0 ∷ 0 ∷ 0 ∷ 0 ∷ 1 ∷ 0 ∷ 0 ∷ 0
    ∷ 0 ∷ 0 ∷ 0 ∷ 0 ∷ 0 ∷ 0 ∷ 0 ∷ 1 ∷ 0 ∷ 0 ∷ 0
    ∷ 1 ∷ 1 ∷ 0 ∷ 0 ∷ 0 ∷ 0 ∷ 0
    ∷ 1 ∷ 0 ∷ 0 ∷ 0 ∷ 0 ∷ 0
    ∷ []

-- () from 0(X0), of no summaries, over these relations
abbrev over : List ℕ → List ℕ
over arities = book_of (arities ∷ (0 ∷ 1 ∷ 0 ∷ 0 ∷ 0 ∷ 0 ∷ 0 ∷ 0 ∷ []) ∷ [])

unfoldable pub contents_cases : List RefusalCase
contents_cases =
    passes plain
    -- 2: fewer than two bytes; two are none
    ∷ refused [] 2 0
    ∷ refused (0 ∷ []) 2 0
    ∷ refused (0 ∷ 0 ∷ []) 4 0
    -- 3: a count of 65, also in its second byte; 64 is none
    ∷ refused (changed 0 65 plain) 3 0
    ∷ refused (changed 1 1 plain) 3 0
    ∷ refused (changed 0 64 plain) 4 0
    -- 4: the book ends inside the contents
    ∷ refused (take 49 plain) 4 0
    -- a body begins one byte late, or early; the first body too; a high byte of an offset
    ∷ refused (changed 26 77 plain) 4 0
    ∷ refused (changed 26 75 plain) 4 0
    ∷ refused (changed 2 51 plain) 4 0
    ∷ refused (changed 41 1 plain) 4 0
    -- the last body ends before the book, or behind it
    ∷ refused (plain ++ (0 ∷ [])) 4 0
    ∷ refused (take 111 plain) 4 0
    ∷ refused (changed 42 12 plain) 4 0
    -- all stand without gaps, but begin one byte behind the contents
    ∷ refused (0 ∷ 0 ∷ 27 ∷ 0 ∷ 0 ∷ 0 ∷ 1 ∷ 0 ∷ 0 ∷ 0 ∷ 0 ∷ 0 ∷ 0 ∷ 0 ∷ 28 ∷ 0 ∷ 0 ∷ 0 ∷ 8 ∷ 0 ∷ 0 ∷ 0 ∷ 1 ∷ 0 ∷ 0 ∷ 0 ∷ 1 ∷ 1 ∷ 0 ∷ 1 ∷ 0 ∷ 0 ∷ 0 ∷ 0 ∷ 0 ∷ 0 ∷ []) 4 0
    -- 5: the relations' stamp, in its first byte and in its last
    ∷ refused (changed 10 1 plain) 5 0
    ∷ refused (changed 13 1 plain) 5 0
    -- the need and a summary's stamp may be any
    ∷ passes (changed 25 255 (changed 37 128 plain))
    -- an arity of 0 or 9, of the first relation and of the last; 1 and 8 are none
    ∷ refused (changed 50 0 plain) 5 0
    ∷ refused (changed 51 9 plain) 5 0
    ∷ passes (over (1 ∷ 8 ∷ []))
    -- no relation, 33 of them; 1 and 32 are none
    ∷ refused (over []) 5 0
    ∷ refused (over (replicate 33 1)) 5 0
    ∷ passes (over (1 ∷ []))
    ∷ passes (over (replicate 32 1))
    -- 2 before 3, 3 before 4, 4 before 5, 5 before 6
    ∷ refused (65 ∷ []) 2 0
    ∷ refused (changed 0 65 (changed 26 77 plain)) 3 0
    ∷ refused (changed 10 1 (changed 26 77 plain)) 4 0
    ∷ refused (changed 10 1 (changed 52 9 plain)) 5 0
    ∷ []

told : map computed contents_cases ≡ map (λ c. c.expected) contents_cases
unfolding contents_cases longest count number_at entries_in entries contents_end offset_at length_at stamp_at part_at
told = refl

bytes : T (every (λ c. are_bytes c.book) contents_cases)
unfolding contents_cases
bytes = tt

pub contents-meant : (c : RefusalCase) → c ∈ contents_cases → Says c.book c.expected
contents-meant = cases-meant contents_cases told bytes

pub contents-only : (c : RefusalCase) → c ∈ contents_cases → {r : Reason} → Refusal c.book r → c.expected ≡ some r
contents-only = cases-only contents_cases told bytes

-- 2: any book of 25,041 bytes; none of 25,040
too_long : (book : List ℕ) → length book ≡ 25041 → Refusal book (of_book 2)
unfolding longest
too_long book e = two (inr (omega arith))

not-too-long : (book : List ℕ) → length book ≡ 25040 → Refusal book (of_book 2) → ⊥
unfolding longest
not-too-long book e r = ⊎_elim (λ h. omega arith) (λ h. omega arith) ((refused-2 book 0).0 r).1

-- The same 112 bytes from their bodies.
same_bytes : book_of ((2 ∷ 1 ∷ []) ∷ (1 ∷ 2 ∷ 0 ∷ 0 ∷ 0 ∷ 0 ∷ 0 ∷ 0 ∷ 0 ∷ 0 ∷ 0 ∷ 0 ∷ 0 ∷ 0 ∷ 1 ∷ 0 ∷ 0 ∷ 0 ∷ 1 ∷ 0 ∷ 1 ∷ 0 ∷ 0 ∷ 0 ∷ []) ∷ (2 ∷ 1 ∷ 0 ∷ 0 ∷ 0 ∷ 0 ∷ 0 ∷ 0 ∷ 1 ∷ 0 ∷ 0 ∷ 0 ∷ 0 ∷ 0 ∷ 0 ∷ 0 ∷ 0 ∷ 0 ∷ 0 ∷ 1 ∷ 0 ∷ 0 ∷ 0 ∷ []) ∷ (1 ∷ 1 ∷ 0 ∷ 0 ∷ 0 ∷ 0 ∷ 0 ∷ 1 ∷ 0 ∷ 0 ∷ 0 ∷ 0 ∷ 0 ∷ []) ∷ []) ≡ plain
same_bytes = refl
