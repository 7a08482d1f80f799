-- The proved sheets: one table, from bytes to bytes. Answers are those of the specification, laid out as it says; witnesses not told there are worked
-- out by hand. proofs/Proved.antt has the statement.
use Rattle.std.specs.Prelude.{List, [], ◌∷◌, pos, neg_ℤ}
use Rattle.spec.specs.Refresh.{ahead, unfilled}
use Rattle.sheets.specs.Sheet.{Sheet, accepts, refuses, leads}
use Rattle.sheets.specs.Books.{book_a, book_a_second, path, star, pair, apart, eight, nine, no_summaries}
use Rattle.sheets.specs.SourceBooks.{example41, carLocPart, without_v4, without_v2_v4}
use Rattle.sheets.specs.WrongBooks.{wrong_a, wrong_b, wrong_c, wrong_d}

-- Marked * as in the specification.
unfoldable pub sheets : List Sheet
sheets =
    -- * A; answer 1(X0,X1) and 2(X1,7), there 1.1 2.1, back 1 2
    accepts book_a (1 ∷ 2 ∷ 0 ∷ 0 ∷ 0 ∷ 0 ∷ 0 ∷ 1 ∷ 0 ∷ 0 ∷ 0 ∷ 0 ∷ 0 ∷ 0 ∷ 1 ∷ 0 ∷ 0 ∷ 0 ∷ 2 ∷ 0 ∷ 1 ∷ 0 ∷ 0 ∷ 0 ∷ 1 ∷ 7 ∷ 0 ∷ 0 ∷ 0 ∷ []) (1 ∷ 1 ∷ 2 ∷ 1 ∷ 1 ∷ 2 ∷ [])
    -- * A with stamp 4,294,967,290 on summary 3; answer 3(X0,7), there 1.1 1.2, back 1 2
    ∷ accepts book_a_second (1 ∷ 1 ∷ 0 ∷ 0 ∷ 0 ∷ 0 ∷ 0 ∷ 3 ∷ 0 ∷ 0 ∷ 0 ∷ 0 ∷ 0 ∷ 1 ∷ 7 ∷ 0 ∷ 0 ∷ 0 ∷ []) (1 ∷ 1 ∷ 1 ∷ 2 ∷ 1 ∷ 2 ∷ [])
    -- * source 000, example 4.1: v1(X,Z), v2(Z,Y); answer 1(X0,X2) and 2(X2,X1), there 1.1 1.2 2.2, back 1 2 2 3
    ∷ accepts example41 (2 ∷ 2 ∷ 0 ∷ 0 ∷ 0 ∷ 0 ∷ 0 ∷ 0 ∷ 1 ∷ 0 ∷ 0 ∷ 0 ∷ 1 ∷ 0 ∷ 0 ∷ 0 ∷ 0 ∷ 0 ∷ 0 ∷ 2 ∷ 0 ∷ 0 ∷ 0 ∷ 2 ∷ 0 ∷ 2 ∷ 0 ∷ 0 ∷ 0 ∷ 0 ∷ 1 ∷ 0 ∷ 0 ∷ 0 ∷ []) (1 ∷ 1 ∷ 1 ∷ 2 ∷ 2 ∷ 2 ∷ 1 ∷ 2 ∷ 2 ∷ 3 ∷ [])
    -- * source 000, car-loc-part, all five views: v4 alone; answer 4(X0,5,X1,X2), there 1.1 1.2 1.3, back 1 2 3
    ∷ accepts carLocPart (2 ∷ 1 ∷ 0 ∷ 2 ∷ 0 ∷ 0 ∷ 0 ∷ 0 ∷ 1 ∷ 0 ∷ 0 ∷ 0 ∷ 4 ∷ 0 ∷ 0 ∷ 0 ∷ 0 ∷ 0 ∷ 1 ∷ 5 ∷ 0 ∷ 0 ∷ 0 ∷ 0 ∷ 1 ∷ 0 ∷ 0 ∷ 0 ∷ 0 ∷ 2 ∷ 0 ∷ 0 ∷ 0 ∷ []) (1 ∷ 1 ∷ 1 ∷ 2 ∷ 1 ∷ 3 ∷ 1 ∷ 2 ∷ 3 ∷ [])
    -- * without v4: v1, v2; answer 1(X0,5,X1) and 2(X2,X0,X1), there 1.1 1.2 2.1, back 1 2 3
    ∷ accepts without_v4 (2 ∷ 2 ∷ 0 ∷ 2 ∷ 0 ∷ 0 ∷ 0 ∷ 0 ∷ 1 ∷ 0 ∷ 0 ∷ 0 ∷ 1 ∷ 0 ∷ 0 ∷ 0 ∷ 0 ∷ 0 ∷ 1 ∷ 5 ∷ 0 ∷ 0 ∷ 0 ∷ 0 ∷ 1 ∷ 0 ∷ 0 ∷ 0 ∷ 2 ∷ 0 ∷ 2 ∷ 0 ∷ 0 ∷ 0 ∷ 0 ∷ 0 ∷ 0 ∷ 0 ∷ 0 ∷ 0 ∷ 1 ∷ 0 ∷ 0 ∷ 0 ∷ []) (1 ∷ 1 ∷ 1 ∷ 2 ∷ 2 ∷ 1 ∷ 1 ∷ 2 ∷ 3 ∷ [])
    -- * without v2 and v4
    ∷ refuses without_v2_v4 10 0
    -- * (X0,X2) from 0(X0,X1), 0(X1,X2); summary (A,B) from 0(A,B); answer 1(X0,X1) and 1(X1,X2), there 1.1 2.1, back 1 2
    ∷ accepts path (2 ∷ 2 ∷ 0 ∷ 0 ∷ 0 ∷ 0 ∷ 0 ∷ 0 ∷ 2 ∷ 0 ∷ 0 ∷ 0 ∷ 1 ∷ 0 ∷ 0 ∷ 0 ∷ 0 ∷ 0 ∷ 0 ∷ 1 ∷ 0 ∷ 0 ∷ 0 ∷ 1 ∷ 0 ∷ 1 ∷ 0 ∷ 0 ∷ 0 ∷ 0 ∷ 2 ∷ 0 ∷ 0 ∷ 0 ∷ []) (1 ∷ 1 ∷ 2 ∷ 1 ∷ 1 ∷ 2 ∷ [])
    -- * (X0) from 0(X0,X1), 0(X0,X2); summary (A) from 0(A,B); answer 1(X0), there 1.1 1.1, back 1
    ∷ accepts star (1 ∷ 1 ∷ 0 ∷ 0 ∷ 0 ∷ 0 ∷ 0 ∷ 1 ∷ 0 ∷ 0 ∷ 0 ∷ 0 ∷ 0 ∷ []) (1 ∷ 1 ∷ 1 ∷ 1 ∷ 1 ∷ [])
    -- * () from 0(X0), 1(X0); summary (A) from 0(A), 0(B), 1(B); answer 1(X0), there 1.2 1.3, back 1 1 2
    ∷ accepts pair (0 ∷ 1 ∷ 1 ∷ 0 ∷ 0 ∷ 0 ∷ 0 ∷ 0 ∷ []) (1 ∷ 2 ∷ 1 ∷ 3 ∷ 1 ∷ 1 ∷ 2 ∷ [])
    -- the same question; summaries () from 0(A) and () from 1(A), each hiding a variable of its own
    ∷ refuses apart 10 0
    -- * the three lead cases, against need 1
    ∷ leads 1 2147483648 (ahead (pos 2147483647))
    ∷ leads 1 2147483649 (ahead (neg_ℤ (pos 2147483647)))
    ∷ leads 1 0 unfilled
    -- * book A: "summary 1 now has lead 8"; its others
    ∷ leads 4294967290 3 (ahead (pos 8))
    ∷ leads 4294967290 4294967295 (ahead (pos 5))
    ∷ leads 4294967290 4294967289 (ahead (neg_ℤ (pos 1)))
    ∷ leads 4294967290 4294967290 (ahead (pos 0))
    -- a need of 0, with the lowest and the highest stamp, and with a stamp of 0
    ∷ leads 0 1 (ahead (pos 0))
    ∷ leads 0 4294967295 (ahead (pos 0))
    ∷ leads 0 0 unfilled
    -- () from 0(X0) to 0(X7), eight subgoals; summary (A,B) from 0(A), 0(B): 64 rows; answer 1(X0,X0), there 1.1 1.1 1.1 1.1 1.1 1.1 1.1 1.1, back 1 1
    ∷ accepts eight (0 ∷ 1 ∷ 1 ∷ 0 ∷ 0 ∷ 0 ∷ 0 ∷ 0 ∷ 0 ∷ 0 ∷ 0 ∷ 0 ∷ 0 ∷ []) (1 ∷ 1 ∷ 1 ∷ 1 ∷ 1 ∷ 1 ∷ 1 ∷ 1 ∷ 1 ∷ 1 ∷ 1 ∷ 1 ∷ 1 ∷ 1 ∷ 1 ∷ 1 ∷ 1 ∷ 1 ∷ [])
    -- with nine subgoals, 81 rows
    ∷ refuses nine 9 0
    -- n = 0
    ∷ refuses no_summaries 10 0
    -- a one-byte book
    ∷ refuses (0 ∷ []) 2 0
    -- n = 65
    ∷ refuses (65 ∷ 0 ∷ []) 3 0
    -- * wrong, a: joining over a hidden street
    ∷ refuses wrong_a 10 0
    -- * wrong, b: counting covered subgoals
    ∷ refuses wrong_b 10 0
    -- wrong, c: taking the largest first; answer 2(X0) and 3(X0), there 1.1 1.2 2.1 2.2 1.3 2.3, back 1 2 5 3 4 6
    ∷ accepts wrong_c (1 ∷ 2 ∷ 0 ∷ 0 ∷ 0 ∷ 0 ∷ 0 ∷ 2 ∷ 0 ∷ 0 ∷ 0 ∷ 0 ∷ 0 ∷ 3 ∷ 0 ∷ 0 ∷ 0 ∷ 0 ∷ 0 ∷ []) (1 ∷ 1 ∷ 1 ∷ 2 ∷ 2 ∷ 1 ∷ 2 ∷ 2 ∷ 1 ∷ 3 ∷ 2 ∷ 3 ∷ 1 ∷ 2 ∷ 5 ∷ 3 ∷ 4 ∷ 6 ∷ [])
    -- wrong, d: reading a constant as a variable
    ∷ refuses wrong_d 10 0
    ∷ []
