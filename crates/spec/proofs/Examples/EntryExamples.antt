-- Books that refusals 6, 7 and 8 turn down, at entries 1, 2 and 3 and in both orders, and books just within the bounds: one table, settled by computation.
use mathlib.Core.Path.{◌≡◌, refl}
use mathlib.Core.Option.{some}
use mathlib.Core.List.{List, [], ◌∷◌, ◌++◌, map}
use Prim.Native.Nat.{ℕ}
use lib.Dec.{T}
use lib.ListN.{length, take, replicate}
use Rattle.spec.specs.Words.{◌∈◌}
use Rattle.spec.specs.Summaries.{joined}
use Rattle.spec.specs.Numbers.{number_at}
use Rattle.spec.specs.BookLayout.{entries, contents_end}
use Rattle.spec.specs.Contents.{count, entries_in, offset_at, length_at, stamp_at, part_at}
use Rattle.spec.specs.declared.Reason.{Reason}
use Rattle.spec.specs.Refusals.{longest, Refusal}
use Rattle.spec.proofs.Lists.Tests.{every}
use Rattle.spec.proofs.Bytes.RefusalTest.{Says}
use Rattle.spec.proofs.Examples.RefusalCases.{RefusalCase, refused, passes, computed, book_of, changed, are_bytes, cases-meant, cases-only}

-- the five bytes of a variable and of a constant below 256; the bytes of a rule with this head and these subgoals
abbrev variable : ℕ → List ℕ
variable n = 0 ∷ n ∷ 0 ∷ 0 ∷ 0 ∷ []

abbrev constant : ℕ → List ℕ
constant n = 1 ∷ n ∷ 0 ∷ 0 ∷ 0 ∷ []

abbrev ruled : List (List ℕ) → List (List ℕ) → List ℕ
ruled head body = length head ∷ length body ∷ joined head ++ joined body

-- 0(Xn); () from 0(X0)
abbrev unary : ℕ → List ℕ
unary n = 0 ∷ variable n

abbrev fine : List ℕ
fine = ruled [] (unary 0 ∷ [])

-- a book of no summaries with this question; one of two summaries. The arities are 1 and 2.
abbrev asked : List ℕ → List ℕ
asked question = book_of ((1 ∷ 2 ∷ []) ∷ question ∷ [])

abbrev summed : List ℕ → List ℕ → List ℕ
summed first second = book_of ((1 ∷ 2 ∷ []) ∷ fine ∷ first ∷ second ∷ [])

-- (X1) from 0(X0), which is not safe; (X0,X0) from 0(X0), which has a variable twice
abbrev unsafe : List ℕ
unsafe = ruled (variable 1 ∷ []) (unary 0 ∷ [])

abbrev twice : List ℕ
twice = ruled (variable 0 ∷ variable 0 ∷ []) (unary 0 ∷ [])

unfoldable pub entry_cases : List RefusalCase
entry_cases =
    passes (asked fine)
    ∷ passes (summed fine fine)
    -- 6, ends early: at once, before the count, in a term's number, before a subgoal
    ∷ refused (asked []) 6 1
    ∷ refused (asked (0 ∷ [])) 6 1
    ∷ refused (asked (take 7 fine)) 6 1
    ∷ refused (asked (0 ∷ 2 ∷ unary 0)) 6 1
    -- bytes over
    ∷ refused (asked (fine ++ (0 ∷ []))) 6 1
    -- a head of 9 terms; 8 are none
    ∷ refused (asked (ruled (replicate 9 (variable 0)) (unary 0 ∷ []))) 6 1
    ∷ passes (asked (ruled (replicate 8 (variable 0)) (unary 0 ∷ [])))
    -- no subgoal, 13 of a question, 9 of a summary; 12 and 8 are none
    ∷ refused (asked (0 ∷ 0 ∷ [])) 6 1
    ∷ refused (asked (ruled [] (replicate 13 (unary 0)))) 6 1
    ∷ passes (asked (ruled [] (replicate 12 (unary 0))))
    ∷ refused (summed (ruled [] (replicate 9 (unary 0))) fine) 6 2
    ∷ refused (summed fine (ruled [] (replicate 9 (unary 0)))) 6 3
    ∷ passes (summed (ruled [] (replicate 8 (unary 0))) fine)
    -- a relation past the last; as many terms as its arity
    ∷ refused (asked (ruled [] ((2 ∷ variable 0) ∷ []))) 6 1
    ∷ refused (asked (ruled [] ((1 ∷ variable 0) ∷ []))) 6 1
    ∷ refused (asked (ruled [] ((0 ∷ variable 0 ++ variable 0) ∷ []))) 6 1
    ∷ passes (asked (ruled [] ((1 ∷ variable 0 ++ constant 0) ∷ [])))
    -- a tag of 2, in the head and in the body
    ∷ refused (asked (ruled ((2 ∷ 0 ∷ 0 ∷ 0 ∷ 0 ∷ []) ∷ []) (unary 0 ∷ []))) 6 1
    ∷ refused (asked (ruled [] ((0 ∷ 2 ∷ 0 ∷ 0 ∷ 0 ∷ 0 ∷ []) ∷ []))) 6 1
    -- variable 32, also by its second byte; 31 is none, and any constant is
    ∷ refused (asked (ruled [] (unary 32 ∷ []))) 6 1
    ∷ refused (asked (ruled [] ((0 ∷ 0 ∷ 0 ∷ 1 ∷ 0 ∷ 0 ∷ []) ∷ []))) 6 1
    ∷ passes (asked (ruled [] (unary 31 ∷ [])))
    ∷ passes (asked (ruled [] ((0 ∷ 1 ∷ 255 ∷ 255 ∷ 255 ∷ 255 ∷ []) ∷ [])))
    -- 7, of the question and of each summary; a summary left out must be sound too
    ∷ refused (asked unsafe) 7 1
    ∷ refused (summed unsafe fine) 7 2
    ∷ refused (summed fine unsafe) 7 3
    ∷ refused (changed 34 0 (summed unsafe fine)) 7 2
    -- 8, a variable twice and a constant; not of the question
    ∷ refused (summed twice fine) 8 2
    ∷ refused (summed fine (ruled (constant 0 ∷ []) (unary 0 ∷ []))) 8 3
    ∷ passes (asked twice)
    ∷ passes (asked (ruled (constant 0 ∷ []) (unary 0 ∷ [])))
    -- in one entry 6 before 7 and 7 before 8
    ∷ refused (summed fine (unsafe ++ (0 ∷ []))) 6 3
    ∷ refused (summed (ruled (variable 1 ∷ variable 1 ∷ []) (unary 0 ∷ [])) fine) 7 2
    -- entry by entry, whatever the numbers
    ∷ refused (summed unsafe []) 7 2
    ∷ refused (summed twice []) 8 2
    ∷ refused (summed twice unsafe) 8 2
    ∷ refused (summed [] unsafe) 6 2
    ∷ refused (summed unsafe twice) 7 2
    ∷ refused (book_of ((1 ∷ 2 ∷ []) ∷ unsafe ∷ [] ∷ twice ∷ [])) 7 1
    ∷ []

told : map computed entry_cases ≡ map (λ c. c.expected) entry_cases
unfolding entry_cases longest count number_at entries_in entries contents_end offset_at length_at stamp_at part_at
told = refl

bytes : T (every (λ c. are_bytes c.book) entry_cases)
unfolding entry_cases
bytes = tt

pub entries-meant : (c : RefusalCase) → c ∈ entry_cases → Says c.book c.expected
entries-meant = cases-meant entry_cases told bytes

pub entries-only : (c : RefusalCase) → c ∈ entry_cases → {r : Reason} → Refusal c.book r → c.expected ≡ some r
entries-only = cases-only entry_cases told bytes
