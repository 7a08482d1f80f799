-- What stands in a sound book for a summary: its stamp, its rule, and whether it is admitted.
use Rattle.std.proofs.Common.{◌≡◌, ℕ, zero, suc, ◌+◌, ◌*◌, ◌<◌, ◌≤◌, Bool, List, length, sym, ap, ◌∙◌, ap₂, arith}
use mathlib.Core.Option.{some}
use Rattle.spec.specs.Words.{Rule}
use Rattle.spec.specs.Refresh.{admitted}
use Rattle.spec.specs.Summaries.{place, or_none, summary}
use Rattle.spec.specs.Book.{Summary, Book, if_true, admitted_of}
use Rattle.spec.specs.BookLayout.{SoundBook}
use Rattle.spec.specs.Contents.{entries_in, stamp_at}
use Rattle.spec.proofs.Lists.Places.{place_map, place-some}
use Rattle.spec.proofs.Bytes.BookStands.{book-count, book-entries, question-stamp, summary-stamp}
use Rattle.spec.proofs.Bytes.BookPasses.{book-loads}
use Rattle.spec.proofs.Bytes.Within.{entries-are, entries-some, loads-room}
use Rattle.admission.specs.Admission.{HasSummary, AdmissionSays}

module _ {book : List ℕ} {i : ℕ} (has : HasSummary book i) where
  pub entry-there : i + 1 < entries_in book
  entry-there = let to = has.to in omega (arith, book-entries has.sound, entries-are (length has.value.summaries))

  pub need-room : 26 ≤ length book
  need-room = loads-room book 1 (book-loads has.sound) (entries-some book)

  pub stamp-room : 14 + 12 * (i + 1) ≤ length book
  stamp-room = loads-room book (i + 1) (book-loads has.sound) entry-there

  -- the summary there, in every value of the book
  pub standing : (b : Book) → SoundBook book b → (u : Summary) × (place b.summaries i ≡ some u)
  standing b s = go i has.from (let to = has.to in omega (arith, book-count s, book-count has.sound))
    where
      go : (k : ℕ) → 1 ≤ k → k ≤ length b.summaries → (u : Summary) × (place b.summaries k ≡ some u)
      go zero h l = absurd (omega arith)
      go (suc k) h l = place-some b.summaries k (omega arith)

-- what is made of the summary there
pub admitted-at : (b : Book) (i : ℕ) (u : Summary) → place b.summaries i ≡ some u → summary (admitted_of b) i ≡ if_true (admitted b.need u.stamp u.rule) u.rule
admitted-at b i u p = ap or_none (place_map (λ s. if_true (admitted b.need s.stamp s.rule) s.rule) b.summaries i u p)

pub says-in : (book : List ℕ) (i : ℕ) (need stamp : ℕ) (r : Bool) → need ≡ stamp_at book 1 → stamp ≡ stamp_at book (i + 1) → ((rule : Rule ℕ) → r ≡ admitted need stamp rule) → AdmissionSays book i r
says-in book i need stamp r n t h = record { is = is }
  where
    is : (b : Book) → SoundBook book b → (u : Summary) → place b.summaries i ≡ some u → summary (admitted_of b) i ≡ if_true r u.rule
    is b s u p =
        let one : i + 1 ≡ suc i = omega arith in
        let here : stamp ≡ u.stamp = t ∙ ap (stamp_at book) one ∙ summary-stamp s i u p in
        let asked : need ≡ b.need = n ∙ question-stamp s in
        admitted-at b i u p ∙ ap (λ x. if_true x u.rule) (sym (h u.rule ∙ ap₂ (λ x y. admitted x y u.rule) asked here))
