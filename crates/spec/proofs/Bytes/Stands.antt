-- What stands in the contents of entries that are laid out as a book, and where their bodies stand.
use mathlib.Core.Path.{◌≡◌, ap, sym, ◌∙◌}
use mathlib.Core.Option.{some}
use mathlib.Core.List.{List, ◌++◌}
use Prim.Native.Nat.{ℕ, zero, suc, ◌+◌, ◌*◌, ◌≤◌, ◌<◌}
use native.Mathlib.Omega.{arith}
use lib.ListN.{length, drop}
use lib.Seq.{drop-drop, take-append_seam}
use Rattle.spec.specs.Words.{◌∈◌}
use Rattle.spec.specs.Summaries.{place, joined}
use Rattle.spec.specs.Numbers.{little, number_at}
use Rattle.spec.specs.BookLayout.{StampedBody, entries, contents_end, contents_from, bodies}
use Rattle.spec.specs.Contents.{count, entries_in, offset_at, length_at, stamp_at, part_at, begin_at, NoGaps}
use Rattle.spec.proofs.Bytes.NumberLaws.{value-little}
use Rattle.spec.proofs.Lists.Places.{place-some, place-drop, place-less}
use Rattle.spec.proofs.Bytes.Laid.{laid, contents-end, laid-size}
use Rattle.spec.proofs.Bytes.Starts.{body_of, start_of, start-next, start-within, start-end, drop-contents, drop-parts}
use Rattle.spec.proofs.Lists.Counted.{place_in}

-- The numbers of the contents fit their bytes.
pub record ContentsFit (n : ℕ) (es : List StampedBody) : Type 0 where
  pub all : length es ≡ entries n
  pub few : n < 65536
  pub size : length (laid n es) < 4294967296
  pub stamps : (e : StampedBody) → e ∈ es → e.stamp < 4294967296

module _ (n : ℕ) (es : List StampedBody) (fits : ContentsFit n es) where
  pub laid-count : count (laid n es) ≡ n
  unfolding count number_at laid
  laid-count = value-little 2 n fits.few

  module _ (i : ℕ) (e : StampedBody) (stands : place es (suc i) ≡ some e) where
    abbrev start : ℕ
    start = start_of body_of (contents_end n) es i

    start_fits : start + length e.body ≤ length (laid n es)
    start_fits = omega (arith, laid-size n es fits.all, start-within body_of (contents_end n) es (suc i), start-next body_of (contents_end n) es i e stands)

    -- The entry's twelve bytes, and what follows them.
    rest : List ℕ
    rest = contents_from (start + length e.body) (drop (suc i) es) ++ joined (bodies es)

    twelve : drop (2 + 12 * i) (laid n es) ≡ little 4 start ++ (little 4 (length e.body) ++ (little 4 e.stamp ++ rest))
    unfolding laid rest
    twelve =
        let two : 2 + 12 * i ≡ suc (suc (12 * i)) = omega arith in
        rw two (drop-contents (contents_end n) es (joined (bodies es)) i (let less = place-less es i e stands in omega arith) ∙ ap (λ l. contents_from start l ++ joined (bodies es)) (place-drop es i e stands))

    pub laid-offset : offset_at (laid n es) i ≡ start
    unfolding offset_at number_at
    laid-offset = rw twelve (value-little 4 start (let fit = start_fits in let size = fits.size in omega arith))

    pub laid-length : length_at (laid n es) i ≡ length e.body
    unfolding length_at number_at
    laid-length =
        let later : 6 + 12 * i ≡ 2 + 12 * i + 4 = omega arith in
        rw (later, ← drop-drop 4 (2 + 12 * i) (laid n es), twelve) (value-little 4 (length e.body) (let fit = start_fits in let size = fits.size in omega arith))

    pub laid-stamp : stamp_at (laid n es) i ≡ e.stamp
    unfolding stamp_at number_at
    laid-stamp =
        let later : 10 + 12 * i ≡ 2 + 12 * i + 8 = omega arith in
        rw (later, ← drop-drop 8 (2 + 12 * i) (laid n es), twelve) (value-little 4 e.stamp (fits.stamps e (place_in es (suc i) stands)))

    from_start : drop start (laid n es) ≡ e.body ++ joined (bodies (drop (suc i) es))
    unfolding laid
    from_start =
        drop-parts body_of (little 2 n ++ contents_from (contents_end n) es) (contents_end n) (contents-end n es fits.all) es i
        ∙ ap (λ l. joined (bodies l)) (place-drop es i e stands)

    pub laid-part : part_at (laid n es) i ≡ e.body
    unfolding part_at
    laid-part = rw (laid-offset, laid-length, from_start) (take-append_seam e.body (joined (bodies (drop (suc i) es))))

  laid-entries : entries_in (laid n es) ≡ length es
  unfolding entries_in
  laid-entries = ap entries laid-count ∙ sym fits.all

  -- What stands for entry i.
  entry-there : (i : ℕ) → i < entries_in (laid n es) → (e : StampedBody) × (place es (suc i) ≡ some e)
  entry-there i h = place-some es i (omega (arith, laid-entries))

  laid-begins : (i : ℕ) → i < entries_in (laid n es) → offset_at (laid n es) i ≡ begin_at (laid n es) i
  laid-begins zero h = let e = entry-there 0 h in laid-offset 0 e.0 e.1 ∙ ap contents_end (sym laid-count)
  laid-begins (suc i) h =
      let next = entry-there (suc i) h in
      let e = entry-there i (omega arith) in
      omega (arith, laid-offset (suc i) next.0 next.1, start-next body_of (contents_end n) es i e.0 e.1, laid-offset i e.0 e.1, laid-length i e.0 e.1)

  laid-ends : begin_at (laid n es) (entries_in (laid n es)) ≡ length (laid n es)
  unfolding entries
  laid-ends =
      let last : entries_in (laid n es) ≡ suc (suc n) = laid-entries ∙ omega (arith, fits.all) in
      let e = entry-there (suc n) (omega arith) in
      let end : start_of body_of (contents_end n) es (suc (suc n)) ≡ contents_end n + length (joined (bodies es)) = rw (sym last, laid-entries) (start-end body_of (contents_end n) es) in
      rw last (omega (arith, laid-offset (suc n) e.0 e.1, laid-length (suc n) e.0 e.1, start-next body_of (contents_end n) es (suc n) e.0 e.1, laid-size n es fits.all))

  pub laid-no-gaps : NoGaps (laid n es)
  laid-no-gaps = record { room = rw laid-count (omega (arith, laid-size n es fits.all)); begins = laid-begins; ends = laid-ends }
