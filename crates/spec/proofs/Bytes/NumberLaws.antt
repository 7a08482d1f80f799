-- Numbers as bytes: both ways, lengths and bounds.
use mathlib.Core.Path.{◌≡◌, refl, ap, ap₂, ◌∙◌}
use mathlib.Core.List.{List, [], ◌∷◌, ◌++◌}
use Prim.Native.Nat.{ℕ, zero, suc, ◌+◌, ◌*◌, ◌/◌, ◌%◌, ◌^◌, ◌<◌, ◌≤◌}
use native.Mathlib.Omega.{arith}
use native.Mathlib.Nat.{pow-succ'}
use lib.ListN.{length, take, drop, length-drop}
use lib.Seq.{drop-drop}
use Rattle.spec.specs.Numbers.{little, value, Bytes, number_at}
use Rattle.spec.proofs.Bytes.RuleReading.{got, bad, early, and_then, read_number}

pub length-little : (many n : ℕ) → length (little many n) ≡ many
length-little zero n = refl
length-little (suc many) n = ap suc (length-little many (n / 256))

pub value-little : (many n : ℕ) → n < 256 ^ many → value (little many n) ≡ n
value-little zero n h = omega arith
value-little (suc many) n h =
    let p = pow-succ' 256 many in
    let l : n / 256 < 256 ^ many = omega arith in
    let ih : value (little many (n / 256)) ≡ n / 256 = value-little many (n / 256) l in
    omega arith

pub little-value : (bs : List ℕ) → Bytes bs → little (length bs) (value bs) ≡ bs
little-value [] h = refl
little-value (b ∷ bs) h =
    let lb : b < 256 = h 0 in
    let m : (b + 256 * value bs) % 256 ≡ b = omega arith in
    let d : (b + 256 * value bs) / 256 ≡ value bs = omega arith in
    ap₂ ◌∷◌ m (ap (little (length bs)) d ∙ little-value bs (λ i. h (suc i)))

pub value-below : (bs : List ℕ) → Bytes bs → value bs < 256 ^ length bs
value-below [] h = omega arith
value-below (b ∷ bs) h =
    let lb : b < 256 = h 0 in
    let ih : value bs < 256 ^ length bs = value-below bs (λ i. h (suc i)) in
    let p = pow-succ' 256 (length bs) in
    omega arith

-- lists of bytes
pub bytes-little : (many n : ℕ) → Bytes (little many n)
bytes-little zero n i = omega arith
bytes-little (suc many) n zero = omega arith
bytes-little (suc many) n (suc i) = bytes-little many (n / 256) i

pub bytes-cons : (b : ℕ) (bs : List ℕ) → b < 256 → Bytes bs → Bytes (b ∷ bs)
bytes-cons b bs h hs zero = h
bytes-cons b bs h hs (suc i) = hs i

pub bytes-append : (l m : List ℕ) → Bytes l → Bytes m → Bytes (l ++ m)
bytes-append [] m h k = k
bytes-append (b ∷ l) m h k = bytes-cons b (l ++ m) (h 0) (bytes-append l m (λ i. h (suc i)) k)

pub bytes_drop : (at : ℕ) (bs : List ℕ) → Bytes bs → Bytes (drop at bs)
bytes_drop zero bs h = h
bytes_drop (suc at) [] h = h
bytes_drop (suc at) (b ∷ bs) h = bytes_drop at bs (λ i. h (suc i))

pub bytes_take : (many : ℕ) (bs : List ℕ) → Bytes bs → Bytes (take many bs)
bytes_take zero bs h = λ i. omega arith
bytes_take (suc many) [] h = h
bytes_take (suc many) (b ∷ bs) h = bytes-cons b (take many bs) (h 0) (bytes_take many bs (λ i. h (suc i)))

-- the number at a place
read-front : (many : ℕ) (bs : List ℕ) → many ≤ length bs → read_number many bs ≡ got (value (take many bs)) (drop many bs)
read-front zero bs h = refl
read-front (suc many) [] h = absurd (omega arith)
read-front (suc many) (b ∷ bs) h = ap (λ r. and_then r (λ n rest. got (b + 256 * n) rest)) (read-front many bs (omega arith))

pub read-number-at : (many : ℕ) (bs : List ℕ) (at : ℕ) → at + many ≤ length bs → read_number many (drop at bs) ≡ got (number_at many bs at) (drop (at + many) bs)
unfolding number_at
read-number-at many bs at h = read-front many (drop at bs) (omega (arith, length-drop at bs)) ∙ ap (got (value (take many (drop at bs)))) (drop-drop many at bs)

read_short : (many : ℕ) (bs : List ℕ) → length bs < many → read_number many bs ≡ bad early
read_short zero bs h = absurd (omega arith)
read_short (suc many) [] h = refl
read_short (suc many) (b ∷ bs) h = ap (λ r. and_then r (λ n rest. got (b + 256 * n) rest)) (read_short many bs (omega arith))

pub read-number-cut : (many : ℕ) (bs : List ℕ) (at : ℕ) → length bs < at + many → at ≤ length bs → read_number many (drop at bs) ≡ bad early
read-number-cut many bs at h l = read_short many (drop at bs) (omega (arith, length-drop at bs))
