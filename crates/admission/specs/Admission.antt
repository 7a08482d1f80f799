-- Which summaries of a sound book are admitted.
use Rattle.std.specs.Prelude.{◌≡◌, ℕ, ◌≤◌, Bool, List, length}
use Rattle.std.proofs.Math.Option.{some}
use Rattle.spec.specs.Summaries.{place, summary}
use Rattle.spec.specs.Book.{Summary, Book, if_true, admitted_of}
use Rattle.spec.specs.BookLayout.{SoundBook}

-- A sound book that has a summary of that number.
pub record HasSummary (book : List ℕ) (i : ℕ) : Type 0 where
  pub value : Book
  pub sound : SoundBook book value
  pub from : 1 ≤ i
  pub to : i ≤ length value.summaries

-- "A summary is admitted exactly if it has a lead of 0 or more": its rule has a say exactly if the test says so.
pub record AdmissionSays (book : List ℕ) (i : ℕ) (r : Bool) : Type 0 where
  pub is : (b : Book) → SoundBook book b → (u : Summary) → place b.summaries i ≡ some u → summary (admitted_of b) i ≡ if_true r u.rule
