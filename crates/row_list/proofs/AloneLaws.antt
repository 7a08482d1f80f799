-- The codes of subgoals of one term: how many, which, and whose.
use mathlib.Core.Path.{◌≡◌, refl, ap, ◌∙◌}
use mathlib.Core.List.{List, [], ◌∷◌, ◌++◌, map, map-append}
use Prim.Native.Nat.{ℕ, suc, ◌+◌, ◌-◌, ◌*◌, ◌<◌, ◌≤◌}
use native.Mathlib.Omega.{arith}
use lib.ListN.{length, get_or, take, length-map}
use lib.Seq.{length-take-le, take-suc}
use borrow.Rule.Slice.PartMut.{put_mid}
use Rattle.spec.specs.Words.{Term, itself}
use Rattle.spec.specs.Given.{at_front}
use Rattle.codes.specs.Code.{subgoal_codes, codes_of}
use Rattle.codes.proofs.Padded.{codes-length, codes-more}
use Rattle.summary_rows.specs.RowTask.{alone}
use Rattle.row_list.specs.Alone.{alone_of, alone_codes}
use Rattle.row_list.proofs.Behind.{written-behind}

pub alone-long : (ws : List ℕ) → length (alone_codes ws) ≡ 9 * length ws
unfolding alone_codes
alone-long ws = codes-length itself (map alone_of ws) ∙ ap (λ n. 9 * n) (length-map ws alone_of)

-- the codes of terms, each alone
pub alone-codes : (code : Term ℕ → ℕ) (ts : List (Term ℕ)) → alone_codes (map code ts) ≡ codes_of code (map alone ts)
unfolding alone_codes
alone-codes code [] = refl
alone-codes code (t ∷ ts) = ap (λ l. subgoal_codes code (alone t) ++ l) (alone-codes code ts)

pub alone-start : (before : List ℕ) → before ≡ at_front (alone_codes []) before
unfolding alone_codes
alone-start before = refl

-- one more behind those that are written
alone-push : (ws : List ℕ) (k : ℕ) → k < length ws → alone_codes (take (k + 1) ws) ≡ alone_codes (take k ws) ++ subgoal_codes itself (alone_of (get_or ws k 0))
unfolding alone_codes
alone-push ws k h =
    let one : k + 1 ≡ suc k = omega arith in
    let w : ℕ = get_or ws k 0 in
    ap (λ n. codes_of itself (map alone_of (take n ws))) one
    ∙ ap (λ l. codes_of itself (map alone_of l)) (take-suc ws k 0 h)
    ∙ ap (codes_of itself) (map-append alone_of (take k ws) (w ∷ []))
    ∙ codes-more itself (map alone_of (take k ws)) (alone_of w)

pub alone-more : (ws before : List ℕ) → 9 * length ws ≤ length before → (k : ℕ) → k < length ws → (out part : List ℕ) → out ≡ at_front (alone_codes (take k ws)) before → part ≡ subgoal_codes itself (alone_of (get_or ws k 0))
    → put_mid (9 * k) (9 * k + 9 - 9 * k) out part ≡ at_front (alone_codes (take (k + 1) ws)) before
alone-more ws before room k h out part e f =
    let long : length (alone_codes (take k ws)) ≡ 9 * k = omega (arith, alone-long (take k ws), length-take-le k ws (omega arith)) in
    let nine : 9 * k + 9 - 9 * k ≡ 9 = omega arith in
    rw (nine, f, alone-push ws k h) (written-behind (alone_codes (take k ws)) (subgoal_codes itself (alone_of (get_or ws k 0))) before out (9 * k) 9 long refl e)
