-- Rows taken one by one, nine codes each, beside their widths.
use mathlib.Core.Path.{◌≡◌, sym, ap, ◌∙◌}
use mathlib.Core.Logic.{⊎_elim}
use mathlib.Core.List.{List, ◌∷◌}
use Prim.Native.Nat.{ℕ, ◌+◌, ◌*◌, ◌<◌, ◌≤◌}
use native.Mathlib.Omega.{arith}
use lib.ListN.{length, get_or, drop, length-drop}
use lib.Seq.{drop-drop, get_or-drop}
use denote.Bor.{Bor}
use Rattle.std.specs.Prelude.{Some, None}
use Rattle.std.proofs.Common.{Iter}
use Rattle.std.specs.declared.iter.Zip.{Zip}
use Rattle.std.specs.declared.slice.ChunksExact.{ChunksExact}
use Rattle.std.specs.Iterator.Adapters.{zip_first, zip_second, zip_steps}
use Rattle.std.specs.Slice.Iter.{iter_rest, iter_steps, chunks_exact_steps}
use Rattle.book_codes.proofs.Chunks.{CodesLeft, NineTaken, nine-taken, no-nine}

-- What is left behind the first r.
pub record RowsAhead (codes widths : List ℕ) (s : Zip (ChunksExact ℕ) (Iter ℕ)) (r : ℕ) : Type 0 where
  pub codes_left : CodesLeft codes (zip_first s) r
  pub widths_left : iter_rest (zip_second s) ≡ drop r widths

-- One row, and what is left behind it.
pub record RowTaken (codes widths : List ℕ) (t : Zip (ChunksExact ℕ) (Iter ℕ)) (r : ℕ) (row : List ℕ) (wide : ℕ) : Type 0 where
  pub more : r < length widths
  pub nine : NineTaken codes (zip_first t) r row
  pub told : wide ≡ get_or widths r 0
  pub ahead : RowsAhead codes widths t (r + 1)

module _ {codes widths : List ℕ} {r : ℕ} {s : Zip (ChunksExact ℕ) (Iter ℕ)} (a : RowsAhead codes widths s r) (t : Zip (ChunksExact ℕ) (Iter ℕ)) where
  pub row-taken : (row : Bor (List ℕ)) (wide : Bor ℕ) → zip_steps chunks_exact_steps iter_steps s (Some (row, wide)) t → RowTaken codes widths t r row.now wide.now
  row-taken row wide step = record {
    more = omega (arith, ap length next, length-drop r widths);
    nine = one;
    told = ap (λ l. get_or l 0 0) (sym next) ∙ get_or-drop r widths 0 0 ∙ (let z : r + 0 ≡ r = omega arith in ap (λ k. get_or widths k 0) z);
    ahead = record { codes_left = one.left; widths_left = sym (ap (drop 1) next) ∙ drop-drop 1 r widths };
  }
    where
      one : NineTaken codes (zip_first t) r row.now
      one = nine-taken a.codes_left (zip_first t) row step.0

      next : drop r widths ≡ wide.now ∷ iter_rest (zip_second t)
      next = sym a.widths_left ∙ step.1

  pub no-row : 9 * length widths ≤ length codes → zip_steps chunks_exact_steps iter_steps s None t → length widths ≤ r
  no-row room step = ⊎_elim (λ h. omega (arith, no-nine a.codes_left h.0 h.1)) (λ h. omega (arith, h.1.0, ap length a.widths_left, length-drop r widths)) step
