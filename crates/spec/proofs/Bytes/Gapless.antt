-- A book without gaps is its own entries laid out.
use mathlib.Core.Path.{◌≡◌, refl, ap, ap₂, sym, ◌∙◌}
use mathlib.Core.List.{List, [], ◌∷◌, ◌++◌}
use Prim.Native.Nat.{ℕ, zero, suc, ◌+◌, ◌*◌, ◌<◌, ◌≤◌}
use native.Mathlib.Omega.{arith}
use lib.ListN.{length, take, drop, length-drop, take-append-drop}
use lib.Seq.{take-add, drop-drop, drop-length, length-take-le}
use Rattle.spec.specs.Summaries.{joined}
use Rattle.spec.specs.Numbers.{little, Bytes, number_at}
use Rattle.spec.specs.BookLayout.{StampedBody, entries, contents_end, contents_from, bodies}
use Rattle.spec.specs.Contents.{count, entries_in, offset_at, length_at, stamp_at, part_at, begin_at, NoGaps}
use Rattle.spec.proofs.Bytes.NumberLaws.{little-value, bytes_take, bytes_drop}
use Rattle.spec.proofs.Bytes.Within.{entry-room, part-long}
use Rattle.spec.proofs.Bytes.Laid.{laid}

abbrev pub entry_at : List ℕ → ℕ → StampedBody
entry_at book i = record { stamp = stamp_at book i; body = part_at book i }

-- So many of its entries, from entry i on.
abbrev pub entries_from : List ℕ → ℕ → ℕ → List StampedBody
entries_from book i zero = []
entries_from book i (suc many) = entry_at book i ∷ entries_from book (suc i) many

-- Three numbers of four bytes and what follows them.
twelve : (l : List ℕ) (many : ℕ) {a b c d : List ℕ} → a ≡ take 4 l → b ≡ take 4 (drop 4 l) → c ≡ take 4 (drop 8 l) → d ≡ take many (drop 12 l) → a ++ (b ++ (c ++ d)) ≡ take (12 + many) l
twelve l many p q r s =
    let sum : 12 + many ≡ 4 + (4 + (4 + many)) = omega arith in
    ap₂ ◌++◌ p (ap₂ ◌++◌ q (ap₂ ◌++◌ r s)) ∙ sym (rw (sum, take-add 4 (4 + (4 + many)) l, take-add 4 (4 + many) (drop 4 l), take-add 4 many (drop 4 (drop 4 l)), drop-drop 4 4 l, drop-drop 4 8 l))

module _ (book : List ℕ) (bytes : Bytes book) where
  -- The bytes of a number that stands in the book stand there.
  number-there : (many at : ℕ) → at + many ≤ length book → little many (number_at many book at) ≡ take many (drop at book)
  unfolding number_at
  number-there many at h =
      let long : length (take many (drop at book)) ≡ many = length-take-le many (drop at book) (omega (arith, length-drop at book)) in
      ap (λ k. little k (number_at many book at)) (sym long) ∙ little-value (take many (drop at book)) (bytes_take many (drop at book) (bytes_drop at book bytes))

  module _ (whole : NoGaps book) where
    module _ (i : ℕ) (h : i < entries_in book) where
      room : 14 + 12 * i ≤ length book
      room = entry-room book i whole.room h

      abbrev own : List ℕ
      own = drop (2 + 12 * i) book

      from : (k : ℕ) → drop (2 + 12 * i + k) book ≡ drop k own
      from k = sym (drop-drop k (2 + 12 * i) book)

      offset-there : little 4 (begin_at book i) ≡ take 4 own
      unfolding offset_at
      offset-there = ap (little 4) (sym (whole.begins i h)) ∙ number-there 4 (2 + 12 * i) (let r = room in omega arith)

      length-there : little 4 (length (part_at book i)) ≡ take 4 (drop 4 own)
      unfolding length_at
      length-there =
          let at : 6 + 12 * i ≡ 2 + 12 * i + 4 = omega arith in
          ap (little 4) (part-long book i whole h) ∙ number-there 4 (6 + 12 * i) (let r = room in omega arith) ∙ ap (λ k. take 4 (drop k book)) at ∙ ap (take 4) (from 4)

      stamp-there : little 4 (stamp_at book i) ≡ take 4 (drop 8 own)
      unfolding stamp_at
      stamp-there =
          let at : 10 + 12 * i ≡ 2 + 12 * i + 8 = omega arith in
          number-there 4 (10 + 12 * i) (let r = room in omega arith) ∙ ap (λ k. take 4 (drop k book)) at ∙ ap (take 4) (from 8)

    contents-there : (many i : ℕ) → i + many ≤ entries_in book → contents_from (begin_at book i) (entries_from book i many) ≡ take (12 * many) (drop (2 + 12 * i) book)
    contents-there zero i h = refl
    contents-there (suc many) i h =
        let here : i < entries_in book = omega arith in
        let sum : 12 * suc many ≡ 12 + 12 * many = omega arith in
        let at : 2 + 12 * suc i ≡ 2 + 12 * i + 12 = omega arith in
        let next : begin_at book i + length (part_at book i) ≡ begin_at book (suc i) = omega (arith, whole.begins i here, part-long book i whole here) in
        twelve (own i here) (12 * many) (offset-there i here) (length-there i here) (stamp-there i here)
        (ap (λ k. contents_from k (entries_from book (suc i) many)) next ∙ contents-there many (suc i) (omega arith) ∙ ap (λ k. take (12 * many) (drop k book)) at ∙ ap (take (12 * many)) (from i here 12))
        ∙ ap (λ k. take k (own i here)) (sym sum)

    part-and-rest : (i : ℕ) → part_at book i ++ drop (offset_at book i + length_at book i) book ≡ drop (offset_at book i) book
    unfolding part_at
    part-and-rest i =
        ap (λ l. take (length_at book i) (drop (offset_at book i) book) ++ l) (sym (drop-drop (length_at book i) (offset_at book i) book)) ∙ take-append-drop (length_at book i) (drop (offset_at book i) book)

    bodies-there : (many i : ℕ) → i + many ≡ entries_in book → joined (bodies (entries_from book i many)) ≡ drop (begin_at book i) book
    bodies-there zero i e =
        let last : i ≡ entries_in book = omega arith in
        rw (last, whole.ends) (sym (drop-length book))
    bodies-there (suc many) i e =
        ap (λ l. part_at book i ++ l) (bodies-there many (suc i) (omega arith))
        ∙ part-and-rest i
        ∙ ap (λ k. drop k book) (whole.begins i (omega arith))

    pub gapless : laid (count book) (entries_from book 0 (entries_in book)) ≡ book
    unfolding laid count entries_in contents_end entries
    gapless =
        let long = whole.room in
        ap₂ ◌++◌ (number-there 2 0 (omega arith)) (ap₂ ◌++◌ (contents-there (entries_in book) 0 (omega arith)) (bodies-there (entries_in book) 0 (omega arith)))
        ∙ ap (λ l. take 2 book ++ (take (12 * entries_in book) (drop 2 book) ++ l)) (sym (drop-drop (12 * entries_in book) 2 book))
        ∙ ap (λ l. take 2 book ++ l) (take-append-drop (12 * entries_in book) (drop 2 book))
        ∙ take-append-drop 2 book
