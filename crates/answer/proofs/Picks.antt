-- One row more picked.
use mathlib.Core.Path.{◌≡◌, refl, sym, ap, ap₂, ◌∙◌}
use mathlib.Core.Bool.{not}
use mathlib.Core.List.{List, [], ◌∷◌, ◌++◌, map, map-append}
use Prim.Native.Nat.{ℕ, suc, ◌+◌, ◌*◌, ◌-◌, ◌<◌, ◌≤◌}
use native.Mathlib.Omega.{arith}
use native.Mathlib.Numerals.{add-one}
use lib.ListN.{length, get_or, take, drop, set, length-append, length-take, length-drop, length-map}
use lib.Dec.{eqb}
use lib.Seq.{sets, get_or-take, length-take-le, take-suc, take_all}
use borrow.Rule.Slice.PartMut.{put_mid}
use Rattle.std.proofs.lemmas.List.Sums.{prefix_len-le-length}
use Rattle.spec.specs.Summaries.{joined}
use Rattle.spec.proofs.Lists.Joined.{joined-more}
use Rattle.spec.proofs.Lists.Parts.{to_end}
use Rattle.spec.proofs.Lists.Stores.{sets-next, stores-whole}
use Rattle.book_codes.proofs.Stored.{part-put}
use Rattle.answer.specs.Picked.{row_codes, width_in, picked_codes, picked_widths}

module _ (codes : List ℕ) where
  abbrev Stand : List ℕ → Type 0
  Stand rows = (i : ℕ) → i < length rows → 9 * get_or rows i 0 + 9 ≤ length codes

  picked-long : (rows : List ℕ) → Stand rows → length (picked_codes codes rows) ≡ 9 * length rows
  picked-long [] h = refl
  picked-long (r ∷ rows) h =
      let row : length (row_codes codes r) ≡ 9 = length-take-le 9 (drop (9 * r) codes) (omega (arith, length-drop (9 * r) codes, h 0 (omega arith))) in
      omega (arith, length-append (row_codes codes r) (picked_codes codes rows), picked-long rows (λ i l. h (suc i) (omega arith)))

  picked-more : (rows : List ℕ) (r : ℕ) → picked_codes codes (rows ++ (r ∷ [])) ≡ picked_codes codes rows ++ row_codes codes r
  picked-more rows r = ap joined (map-append (row_codes codes) rows (r ∷ [])) ∙ joined-more (map (row_codes codes) rows) (row_codes codes r)

  module _ (rows : List ℕ) (i : ℕ) (turn : i < length rows) where
    more : take (i + 1) rows ≡ take i rows ++ (get_or rows i 0 ∷ [])
    more = ap (λ k. take k rows) (add-one i) ∙ take-suc rows i 0 turn

    few : length (take i rows) ≡ i
    few = length-take-le i rows (omega arith)

    pub picked-stored : (out : List ℕ) → Stand rows → sets (sets out 0 (picked_codes codes (take i rows))) (9 * i) (row_codes codes (get_or rows i 0)) ≡ sets out 0 (picked_codes codes (take (i + 1) rows))
    picked-stored out h =
        let long = picked-long (take i rows) (λ j l. let e : get_or (take i rows) j 0 ≡ get_or rows j 0 = get_or-take i rows j 0 (omega (arith, few)) in omega (arith, h j (omega (arith, few)))) in
        sets-next out 0 (9 * i) (picked_codes codes (take i rows)) (row_codes codes (get_or rows i 0)) (omega (arith, long, few))
        ∙ ap (sets out 0) (sym (ap (picked_codes codes) more ∙ picked-more (take i rows) (get_or rows i 0)))

    pub widths-stored : (out : List ℕ) → set (sets out 0 (picked_widths codes (take i rows))) i (width_in (drop 1 (row_codes codes (get_or rows i 0)))) ≡ sets out 0 (picked_widths codes (take (i + 1) rows))
    widths-stored out =
        sets-next out 0 i (picked_widths codes (take i rows)) (width_in (drop 1 (row_codes codes (get_or rows i 0))) ∷ []) (omega (arith, length-map (take i rows) (λ r. width_in (drop 1 (row_codes codes r))), few))
        ∙ ap (sets out 0) (sym (ap (picked_widths codes) more ∙ map-append (λ r. width_in (drop 1 (row_codes codes r))) (take i rows) (get_or rows i 0 ∷ [])))

  -- all of them, where there is just the room
  pub picked-all : (rows : List ℕ) (i : ℕ) → length rows ≤ i → Stand rows → (out widths : List ℕ) {out₁ widths₁ : List ℕ} → length out ≡ 9 * length rows → length widths ≡ length rows
      → out₁ ≡ sets out 0 (picked_codes codes (take i rows)) → widths₁ ≡ sets widths 0 (picked_widths codes (take i rows)) → (out₁ ≡ picked_codes codes rows) × (widths₁ ≡ picked_widths codes rows)
  picked-all rows i h stand out widths room told e f =
      let all = take_all i rows h in (
        e ∙ ap (λ l. sets out 0 (picked_codes codes l)) all ∙ stores-whole out (picked_codes codes rows) (picked-long rows stand ∙ sym room),
        f ∙ ap (λ l. sets widths 0 (picked_widths codes l)) all ∙ stores-whole widths (picked_widths codes rows) (length-map rows (λ r. width_in (drop 1 (row_codes codes r))) ∙ sym told),
      )

  -- a row as it is read: a part of the codes, and its terms behind the first
  module _ (r : ℕ) where
    row-read : take (9 * r + 9 - 9 * r) (drop (9 * r) codes) ≡ row_codes codes r
    row-read = let n : 9 * r + 9 - 9 * r ≡ 9 = omega arith in ap (λ k. take k (drop (9 * r) codes)) n

    pub row-width : {n : ℕ} → n ≡ width_in (take (length (take (9 * r + 9 - 9 * r) (drop (9 * r) codes)) - 1) (drop 1 (take (9 * r + 9 - 9 * r) (drop (9 * r) codes)))) → n ≡ width_in (drop 1 (row_codes codes r))
    row-width e = e ∙ ap width_in (to_end (take (9 * r + 9 - 9 * r) (drop (9 * r) codes)) 1 ∙ ap (drop 1) row-read)

    pub width-small : width_in (drop 1 (row_codes codes r)) ≤ 8
    width-small = omega (arith, prefix_len-le-length (λ code. not (eqb code 1)) (drop 1 (row_codes codes r)), length-drop 1 (row_codes codes r), length-take 9 (drop (9 * r) codes))

    pub row-put : (out : List ℕ) (to : ℕ) → 9 * r + 9 ≤ length codes → to + 9 ≤ length out → (after : List ℕ) → after ≡ take (9 * r + 9 - 9 * r) (drop (9 * r) codes)
        → put_mid to (to + 9 - to) out after ≡ sets out to (row_codes codes r)
    row-put out to h room after e =
        let n : to + 9 - to ≡ 9 = omega arith in
        ap₂ (λ k l. put_mid to k out l) n (e ∙ row-read) ∙ part-put out (row_codes codes r) to 9 room (length-take-le 9 (drop (9 * r) codes) (omega (arith, length-drop (9 * r) codes)))
