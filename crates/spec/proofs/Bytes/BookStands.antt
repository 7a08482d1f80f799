-- What stands in a sound book, entry by entry: its value.
use mathlib.Core.Path.{◌≡◌, refl, ap, sym, ◌∙◌}
use mathlib.Core.Option.{some}
use mathlib.Core.List.Memᴰ
use mathlib.Core.List.{List}
use Prim.Native.Nat.{ℕ, zero, suc, ◌<◌}
use native.Mathlib.Omega.{arith}
use lib.ListN.{length}
use Rattle.spec.specs.Words.{◌∈◌}
use Rattle.spec.specs.Summaries.{place}
use Rattle.spec.specs.Book.{Summary, Book}
use Rattle.spec.specs.RuleLayout.{rule_bytes}
use Rattle.spec.specs.BookLayout.{StampedBody, entries, entry_of, entries_of, SoundValue, SoundBook}
use Rattle.spec.specs.Contents.{count, entries_in, stamp_at, part_at, NoGaps, RightRelations}
use Rattle.spec.specs.Refusals.{longest}
use Rattle.spec.proofs.Lists.Places.{place_map, no_place}
use Rattle.spec.proofs.Bytes.Laid.{laid, book-laid}
use Rattle.spec.proofs.Bytes.BookSizes.{entries-many, book-most}
use Rattle.spec.proofs.Bytes.Stands.{ContentsFit, laid-count, laid-part, laid-stamp, laid-no-gaps}

module _ (b : Book) (v : SoundValue b) where
  stamps-fit : (e : StampedBody) → e ∈ entries_of b → e.stamp < 4294967296
  stamps-fit e (Memᴰ.head p) = rw p (omega arith)
  stamps-fit e (Memᴰ.tail (Memᴰ.head p)) = rw p v.need
  stamps-fit e (Memᴰ.tail (Memᴰ.tail m)) = let s = Memᴰ.of_map entry_of b.summaries m in rw (sym s.2) (v.summaries s.0 s.1).stamp

  fitting : ContentsFit (length b.summaries) (entries_of b)
  unfolding longest
  fitting = record { all = entries-many b; few = let few = v.few in omega arith; size = rw (← book-laid b) (omega (arith, book-most b v)); stamps = stamps-fit }

module _ {bytes : List ℕ} {b : Book} (s : SoundBook bytes b) where
  is-laid : bytes ≡ laid (length b.summaries) (entries_of b)
  is-laid = sym s.written ∙ book-laid b

  pub book-count : count bytes ≡ length b.summaries
  book-count = rw is-laid (laid-count _ _ (fitting b s.value))

  pub book-entries : entries_in bytes ≡ entries (length b.summaries)
  unfolding entries_in
  book-entries = ap entries book-count

  pub book-no-gaps : NoGaps bytes
  book-no-gaps = rw is-laid (laid-no-gaps _ _ (fitting b s.value))

  module _ (i : ℕ) (e : StampedBody) (stands : place (entries_of b) (suc i) ≡ some e) where
    entry-part : part_at bytes i ≡ e.body
    entry-part = rw is-laid (laid-part _ _ (fitting b s.value) i e stands)

    entry-stamp : stamp_at bytes i ≡ e.stamp
    entry-stamp = rw is-laid (laid-stamp _ _ (fitting b s.value) i e stands)

  -- "Entry 0 is the relations (stamp 0), entry 1 the question, entry i + 1 summary i." "Entry 1 carries the need r, each summary its stamp s."
  pub relations-part : part_at bytes 0 ≡ b.arities
  relations-part = entry-part 0 _ refl

  pub relations-stamp : stamp_at bytes 0 ≡ 0
  relations-stamp = entry-stamp 0 _ refl

  pub question-part : part_at bytes 1 ≡ rule_bytes b.question
  question-part = entry-part 1 _ refl

  pub question-stamp : stamp_at bytes 1 ≡ b.need
  question-stamp = entry-stamp 1 _ refl

  summary-entry : (i : ℕ) (u : Summary) → place b.summaries i ≡ some u → place (entries_of b) (suc (suc i)) ≡ some (entry_of u)
  summary-entry zero u p = no_place b.summaries p
  summary-entry (suc i) u p = place_map entry_of b.summaries (suc i) u p

  pub summary-part : (i : ℕ) (u : Summary) → place b.summaries i ≡ some u → part_at bytes (suc i) ≡ rule_bytes u.rule
  summary-part i u p = entry-part (suc i) (entry_of u) (summary-entry i u p)

  pub summary-stamp : (i : ℕ) (u : Summary) → place b.summaries i ≡ some u → stamp_at bytes (suc i) ≡ u.stamp
  summary-stamp i u p = entry-stamp (suc i) (entry_of u) (summary-entry i u p)

  pub book-relations : RightRelations bytes
  book-relations = record { stamp = relations-stamp; arities = rw relations-part s.value.arities }
