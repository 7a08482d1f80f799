-- Runs of stores: one after the other, and what terms and rows leave.
use mathlib.Core.Path.{◌≡◌, refl, sym, ap, ap₂, ◌∙◌}
use mathlib.Core.List.{List, [], ◌∷◌, ◌++◌, append_assoc, append-nil}
use Prim.Native.Nat.{ℕ, suc, ◌+◌, ◌-◌, ◌*◌, ◌/◌, ◌%◌, ◌<◌, ◌≤◌}
use native.Mathlib.Omega.{arith}
use native.Mathlib.Numerals.{add-one}
use lib.ListN.{length, get_or, take, drop, set, length-append, length-drop, length-set}
use lib.Seq.{sets, take-suc, drop-drop, length-take-le}
use borrow.Author.Tests.{lt-ltb, le-ltb}
use borrow.Rule.Slice.PartMut.{put_mid}
use Rattle.std.specs.Int.{w32, to_le_bytes}
use Rattle.spec.specs.Numbers.{little}
use Rattle.spec.proofs.Bytes.NumberLaws.{length-little}
use Rattle.spec.proofs.Lists.Stores.{sets-next}
use Rattle.codes.specs.Code.{constant_tag}
use Rattle.book_codes.proofs.Stored.{part-put}
use Rattle.answer.specs.Bytes.{tag_of, code_bytes, codes_bytes, row_bytes, rows_bytes, rewriting_bytes}

pub tag-variable : (code : ℕ) → code < constant_tag → 0 ≡ tag_of code
unfolding tag_of
tag-variable code h = rw (lt-ltb code constant_tag h)

pub tag-constant : (code : ℕ) → constant_tag ≤ code → 1 ≡ tag_of code
unfolding tag_of
tag-constant code h = rw (le-ltb code constant_tag h)

-- four bytes, the first of least weight
pub little-four : (n : ℕ) → to_le_bytes w32 n ≡ little 4 n
little-four n =
    let b : n / 65536 ≡ n / 256 / 256 = omega arith in
    let c : n / 16777216 ≡ n / 256 / 256 / 256 = omega arith in
    ap₂ (λ x y. n % 256 ∷ n / 256 % 256 ∷ x % 256 ∷ y % 256 ∷ []) b c

-- a term's tag, then the part behind it
pub term-put : (out : List ℕ) (at code : ℕ) → at + 5 ≤ length out → (tag : ℕ) (bytes : List ℕ) → tag ≡ tag_of code → bytes ≡ to_le_bytes w32 (code % 4294967296)
    → put_mid (at + 1) (at + 5 - (at + 1)) (set out at tag) bytes ≡ sets out at (code_bytes code)
term-put out at code h tag bytes t b =
    let n : at + 5 - (at + 1) ≡ 4 = omega arith in
    let four = b ∙ little-four (code % 4294967296) in
    ap (λ k. put_mid (at + 1) k (set out at tag) bytes) n
    ∙ part-put (set out at tag) bytes (at + 1) 4 (simp length-set (omega arith)) (ap length four)
    ∙ ap₂ (λ x y. sets (set out at x) (at + 1) y) t four
    ∙ ap (λ p. sets (set out at (tag_of code)) p (little 4 (code % 4294967296))) (add-one at)

pub codes-long : (codes : List ℕ) → length (codes_bytes codes) ≡ 5 * length codes
codes-long [] = refl
codes-long (w ∷ codes) = omega (arith, length-append (code_bytes w) (codes_bytes codes), codes-long codes, length-little 4 (w % 4294967296))

codes-append : (l m : List ℕ) → codes_bytes (l ++ m) ≡ codes_bytes l ++ codes_bytes m
codes-append [] m = refl
codes-append (w ∷ l) m = ap (λ r. code_bytes w ++ r) (codes-append l m) ∙ sym (append_assoc (code_bytes w) (codes_bytes l) (codes_bytes m))

-- one term more
pub term-stored : (out codes : List ℕ) (at i : ℕ) → i < length codes
    → sets (sets out at (codes_bytes (take i codes))) (at + 5 * i) (code_bytes (get_or codes i 0)) ≡ sets out at (codes_bytes (take (i + 1) codes))
term-stored out codes at i h =
    let long = codes-long (take i codes) in
    let few : length (take i codes) ≡ i = length-take-le i codes (omega arith) in
    let more : codes_bytes (take (i + 1) codes) ≡ codes_bytes (take i codes) ++ code_bytes (get_or codes i 0) =
    ap (λ k. codes_bytes (take k codes)) (add-one i) ∙ ap codes_bytes (take-suc codes i 0 h) ∙ codes-append (take i codes) (get_or codes i 0 ∷ []) ∙ ap (λ r. codes_bytes (take i codes) ++ r) (append-nil (code_bytes (get_or codes i 0)))
    in
    sets-next out at (at + 5 * i) (codes_bytes (take i codes)) (code_bytes (get_or codes i 0)) (omega arith) ∙ ap (sets out at) (sym more)

-- a row's number, then its terms
pub row-stored : (out row : List ℕ) (at wide : ℕ) → sets (set out at (get_or row 0 0 % 256)) (at + 1) (codes_bytes (take wide (drop 1 row))) ≡ sets out at (row_bytes row wide)
row-stored out row at wide = ap (λ p. sets (set out at (get_or row 0 0 % 256)) p (codes_bytes (take wide (drop 1 row)))) (add-one at)

row-long : (row : List ℕ) (wide : ℕ) → 1 + wide ≤ length row → length (row_bytes row wide) ≡ 1 + 5 * wide
row-long row wide h = let few : length (take wide (drop 1 row)) ≡ wide = length-take-le wide (drop 1 row) (omega (arith, length-drop 1 row)) in omega (arith, codes-long (take wide (drop 1 row)))

-- one row more
rows-more : (codes widths : List ℕ) (wide : ℕ) → rows_bytes codes (widths ++ (wide ∷ [])) ≡ rows_bytes codes widths ++ row_bytes (take 9 (drop (9 * length widths) codes)) wide
rows-more codes [] wide = append-nil (row_bytes (take 9 codes) wide)
rows-more codes (w ∷ widths) wide =
    let p : 9 + 9 * length widths ≡ 9 * suc (length widths) = omega arith in
    ap (λ l. row_bytes (take 9 codes) w ++ l) (rows-more (drop 9 codes) widths wide ∙ ap (λ l. rows_bytes (drop 9 codes) widths ++ row_bytes (take 9 l) wide) (drop-drop (9 * length widths) 9 codes ∙ ap (λ k. drop k codes) p))
    ∙ sym (append_assoc (row_bytes (take 9 codes) w) (rows_bytes (drop 9 codes) widths) (row_bytes (take 9 (drop (9 * suc (length widths)) codes)) wide))

module _ (codes widths : List ℕ) (r : ℕ) (turn : r < length widths) {row : List ℕ} {wide : ℕ} (is : row ≡ take 9 (drop (9 * r) codes)) (told : wide ≡ get_or widths r 0) where
  grown : rows_bytes codes (take (r + 1) widths) ≡ rows_bytes codes (take r widths) ++ row_bytes row wide
  grown =
      ap (λ k. rows_bytes codes (take k widths)) (add-one r) ∙ ap (rows_bytes codes) (take-suc widths r 0 turn) ∙ rows-more codes (take r widths) (get_or widths r 0)
      ∙ ap (λ k. rows_bytes codes (take r widths) ++ row_bytes (take 9 (drop (9 * k) codes)) (get_or widths r 0)) (length-take-le r widths (omega arith))
      ∙ ap₂ (λ k w. rows_bytes codes (take r widths) ++ row_bytes k w) (sym is) (sym told)

  module _ (out : List ℕ) (at : ℕ) {p : ℕ} (place : p ≡ at + length (rows_bytes codes (take r widths))) where
    pub rows-stored : {before after : List ℕ} → before ≡ sets out at (rows_bytes codes (take r widths)) → after ≡ sets before p (row_bytes row wide) → after ≡ sets out at (rows_bytes codes (take (r + 1) widths))
    rows-stored e f = f ∙ ap (λ o. sets o p (row_bytes row wide)) e ∙ sets-next out at p (rows_bytes codes (take r widths)) (row_bytes row wide) place ∙ ap (sets out at) (sym grown)

    pub rows-place : 1 + wide ≤ length row → p + (1 + 5 * wide) ≡ at + length (rows_bytes codes (take (r + 1) widths))
    rows-place fits = omega (arith, ap length grown, length-append (rows_bytes codes (take r widths)) (row_bytes row wide), row-long row wide fits)

-- the head's bytes, then the rows
module _ (body codes widths : List ℕ) (head : 2 + 5 * get_or body 0 0 ≤ length body) where
  head-long : length (take (5 * get_or body 0 0) (drop 2 body)) ≡ 5 * get_or body 0 0
  head-long = length-take-le (5 * get_or body 0 0) (drop 2 body) (omega (arith, length-drop 2 body))

  pub head-put : (base : List ℕ) {heads : ℕ} {after : List ℕ} → heads ≡ get_or body 0 0 → 2 + 5 * get_or body 0 0 ≤ length base → after ≡ take (2 + 5 * heads - 2) (drop 2 body)
      → put_mid 2 (2 + 5 * heads - 2) base after ≡ sets base 2 (take (5 * get_or body 0 0) (drop 2 body))
  head-put base {heads} e room a =
      let n : 2 + 5 * heads - 2 ≡ 5 * get_or body 0 0 = omega arith in
      ap₂ (λ k l. put_mid 2 k base l) n (a ∙ ap (λ k. take k (drop 2 body)) n) ∙ part-put base (take (5 * get_or body 0 0) (drop 2 body)) 2 (5 * get_or body 0 0) room head-long

  pub rule-stored : (base : List ℕ) → sets (sets base 2 (take (5 * get_or body 0 0) (drop 2 body))) (2 + 5 * get_or body 0 0) (rows_bytes codes widths) ≡ sets base 2 (take (5 * get_or body 0 0) (drop 2 body) ++ rows_bytes codes widths)
  rule-stored base = sets-next base 2 (2 + 5 * get_or body 0 0) (take (5 * get_or body 0 0) (drop 2 body)) (rows_bytes codes widths) (omega (arith, head-long))

  pub rule-place : 2 + 5 * get_or body 0 0 + length (rows_bytes codes widths) ≡ length (rewriting_bytes body codes widths)
  rule-place = omega (arith, length-append (take (5 * get_or body 0 0) (drop 2 body)) (rows_bytes codes widths), head-long)
