-- Rows taken one by one, as chunks of nine codes.
use mathlib.Core.Path.{◌≡◌, sym, ap, ◌∙◌}
use mathlib.Core.List.{List, ◌++◌}
use Prim.Native.Nat.{ℕ, ◌+◌, ◌*◌, ◌<◌, ◌≤◌}
use native.Mathlib.Decide.{dec_lt}
use native.Mathlib.Omega.{arith}
use lib.ListN.{length, take, drop, length-drop}
use lib.Seq.{take_all, take_at, drop_at, drop-drop}
use denote.Bor.{Bor}
use Rattle.std.specs.Prelude.{Some, None}
use Rattle.std.specs.declared.iter.Take.{Take}
use Rattle.std.specs.declared.slice.ChunksExact.{ChunksExact}
use Rattle.std.specs.Iterator.Adapters.{take_source, take_count, take_steps}
use Rattle.std.specs.Slice.Iter.{chunks_exact_rest, chunks_exact_size, chunks_exact_steps}

-- What is left of the codes behind the first r rows.
pub record CodesLeft (rows : List ℕ) (s : ChunksExact ℕ) (r : ℕ) : Type 0 where
  pub size : chunks_exact_size s ≡ 9
  pub rest : chunks_exact_rest s ≡ drop (9 * r) rows

-- The nine codes of row r, and what is left behind them.
pub record NineTaken (rows : List ℕ) (t : ChunksExact ℕ) (r : ℕ) (row : List ℕ) : Type 0 where
  pub is : row ≡ take 9 (drop (9 * r) rows)
  pub long : length row ≡ 9
  pub left : CodesLeft rows t (r + 1)

module _ {rows : List ℕ} {r : ℕ} {s : ChunksExact ℕ} (l : CodesLeft rows s r) (t : ChunksExact ℕ) where
  pub nine-taken : (row : Bor (List ℕ)) → chunks_exact_steps s (Some row) t → NineTaken rows t r row.now
  nine-taken row step = record {
    is = sym (take_at row.now (chunks_exact_rest t) 9 long) ∙ ap (take 9) (sym split);
    long = long;
    left = record {
      size = step.0 ∙ l.size;
      rest =
          let p : 9 * r + 9 ≡ 9 * (r + 1) = omega arith in
          sym (drop_at row.now (chunks_exact_rest t) 9 long) ∙ ap (drop 9) (sym split) ∙ drop-drop 9 (9 * r) rows ∙ ap (λ k. drop k rows) p;
    };
  }
    where
      long : length row.now ≡ 9
      long = step.1.1 ∙ l.size

      split : drop (9 * r) rows ≡ row.now ++ chunks_exact_rest t
      split = sym l.rest ∙ step.1.0

  pub no-nine : chunks_exact_steps s None t → length rows < 9 * r + 9
  no-nine step = omega (arith, step.1.0, l.size, ap length l.rest, length-drop (9 * r) rows)

-- .. the first n rows alone
pub record Left (rows : List ℕ) (n : ℕ) (s : Take (ChunksExact ℕ)) (r : ℕ) : Type 0 where
  pub codes : CodesLeft rows (take_source s) r
  pub count : take_count s + r ≡ n

pub record Taken (rows : List ℕ) (n : ℕ) (t : Take (ChunksExact ℕ)) (r : ℕ) (row : List ℕ) : Type 0 where
  pub more : r < n
  pub chunk : take 9 row ≡ take 9 (drop (9 * r) rows)
  pub left : Left rows n t (r + 1)

module _ {rows : List ℕ} {n r : ℕ} {s : Take (ChunksExact ℕ)} (l : Left rows n s r) (t : Take (ChunksExact ℕ)) where
  pub taken : (row : Bor (List ℕ)) → take_steps chunks_exact_steps s (Some row) t → Taken rows n t r row.now
  taken row step =
      let one = nine-taken l.codes (take_source t) row step.0 in
      let c = l.count in
      let d = step.1 in
      let long = one.long in
      record { more = omega arith; chunk = take_all 9 row.now (omega arith) ∙ one.is; left = record { codes = one.left; count = omega arith } }

  pub all-taken : 9 * n ≤ length rows → take_steps chunks_exact_steps s None t → n ≤ r
  all-taken room step = elim (dec_lt r n) [
    | no over ↦ omega arith
    | yes more ↦ let c = l.count in absurd (omega (arith, no-nine l.codes (take_source t) (step (omega arith))))
  ]
