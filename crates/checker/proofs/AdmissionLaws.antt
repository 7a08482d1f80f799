-- Which numbers are those of admitted summaries, one by one.
use mathlib.Core.Path.{◌≡◌, sym, ◌∙◌}
use mathlib.Core.Bool.{Bool, true, false}
use mathlib.Core.Option.{none-ne-some}
use mathlib.Core.List.{List}
use Prim.Native.Nat.{ℕ, ◌+◌, ◌*◌, ◌<◌, ◌≤◌}
use native.Mathlib.Omega.{arith}
use lib.ListN.{length, get_or}
use borrow.Author.Count.{below_more}
use Rattle.spec.specs.Book.{Book}
use Rattle.spec.specs.BookLayout.{SoundBook}
use Rattle.spec.specs.Contents.{count}
use Rattle.spec.proofs.Bytes.BookStands.{book-count}
use Rattle.spec.proofs.Lists.Tests.{says_both}
use Rattle.spec.proofs.Bytes.HeadLengths.{width_is}
use Rattle.admission.specs.Admission.{HasSummary, AdmissionSays}
use Rattle.admission.proofs.Standing.{standing}
use Rattle.book_codes.specs.Question.{SomeSound}
use Rattle.bits.proofs.Laws.{exactly-yes, exactly-no}
use Rattle.checker.specs.Tests.{AdmittedNumber, Admits, AdmitsAll}

-- an admitted summary's number is one of the book's
number-known : (b : Book) (number : ℕ) → AdmittedNumber b number → (1 ≤ number) × (number ≤ length b.summaries)
number-known b number a = let w = width_is b.need b.summaries number a.0 a.1 in (w.0, w.1)

pub none_is_zero : (book : List ℕ) (number : ℕ) → number ≡ 0 → Admits book number false
none_is_zero book number z = record { exactly = λ b s. exactly-no (λ a. let k = number-known b number a in omega arith) }

module _ {book : List ℕ} {n number : ℕ} (all : n ≡ count book) where
  pub none-is-over : n < number → Admits book number false
  none-is-over h = record { exactly = λ b s. exactly-no (λ a. let k = number-known b number a in omega (arith, book-count s)) }

  pub is-there : SomeSound book → (number ≡ 0 → ⊥) → number ≤ n → HasSummary book number
  is-there w z h = record { value = w.value; sound = w.sound; from = omega arith; to = omega (arith, book-count w.sound) }

pub admits-as : {book : List ℕ} {number : ℕ} → HasSummary book number → (r : Bool) → AdmissionSays book number r → Admits book number r
admits-as has true says = record { exactly = λ b s. let u = standing has b s in exactly-yes (u.0.rule, says.is b s u.0 u.1) }
admits-as has false says = record { exactly = λ b s. let u = standing has b s in exactly-no (λ a. none-ne-some a.0 (sym (says.is b s u.0 u.1) ∙ a.1)) }

-- The first rows are over admitted summaries.
pub record AdmittedTo (book codes : List ℕ) (i : ℕ) : Type 0 where
  pub is : (b : Book) → SoundBook book b → (k : ℕ) → k < i → AdmittedNumber b (get_or codes (9 * k) 0)

module _ {book codes : List ℕ} where
  pub admitted-start : AdmittedTo book codes 0
  admitted-start = record { is = λ b s k h. absurd (omega arith) }

  module _ {i : ℕ} {r : Bool} (here : Admits book (get_or codes (9 * i) 0) r) where
    pub admitted-go : AdmittedTo book codes i → r ≡ true → AdmittedTo book codes (i + 1)
    admitted-go so t = record { is = λ b s. below_more (λ k. AdmittedNumber b (get_or codes (9 * k) 0)) i (so.is b s) ((here.exactly b s).0 t) }

    pub admitted-not : {count : ℕ} → i < count → r ≡ false → AdmitsAll book codes count false
    admitted-not h f = record { exactly = λ b s. exactly-no (λ all. says_both ((here.exactly b s).1 (all i h)) f) }

  pub admitted-all : {i count : ℕ} → count ≤ i → AdmittedTo book codes i → AdmitsAll book codes count true
  admitted-all h so = record { exactly = λ b s. exactly-yes (λ k l. so.is b s k (omega arith)) }
