-- The lent table after the loader, of contents written out: two records at its front and what stood behind them; on a refusal all that stood there.
use mathlib.Core.Path.{refl}
use mathlib.Core.List.{List, [], ◌∷◌}
use Prim.Native.Nat.{ℕ}
use Rattle.std.specs.Prelude.{Ok, Err}
use Rattle.spec.specs.Numbers.{number_at}
use Rattle.spec.specs.Contents.{offset_at, length_at, stamp_at}
use Rattle.spec.specs.TableLoading.{record_at, records_from, Afterwards}
use Rattle.spec.specs.declared.Entry.{Entry}
use Rattle.spec.specs.declared.Refused.TheVariants.{Contents}

-- the contents of a book of no summaries: a relation at 26, stamp 0; a question of 8 bytes at 27, need 5
abbrev contents : List ℕ
contents = 0 ∷ 0 ∷ 26 ∷ 0 ∷ 0 ∷ 0 ∷ 1 ∷ 0 ∷ 0 ∷ 0 ∷ 0 ∷ 0 ∷ 0 ∷ 0 ∷ 27 ∷ 0 ∷ 0 ∷ 0 ∷ 8 ∷ 0 ∷ 0 ∷ 0 ∷ 5 ∷ 0 ∷ 0 ∷ 0 ∷ []

abbrev entry : ℕ → ℕ → ℕ → Entry
entry o l s = record { offset = o; length = l; stamp = s }

abbrev before : List Entry
before = entry 1 2 3 ∷ entry 4 5 6 ∷ entry 7 8 9 ∷ entry 7 7 7 ∷ []

-- "the loader fills a lent table .. (offset, length, stamp)"; "the records past n + 2 stay"
filled : Afterwards contents before (entry 26 1 0 ∷ entry 27 8 5 ∷ entry 7 8 9 ∷ entry 7 7 7 ∷ []) (Ok 0)
unfolding records_from record_at offset_at length_at stamp_at number_at
filled = refl

-- "no lent byte or record changes"
kept : Afterwards contents before before (Err Contents)
kept = refl
