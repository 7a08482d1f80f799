-- What is promised of a sound book's question as codes, of every value of the book.
use Rattle.std.specs.Prelude.{◌≡◌, List, ℕ, length}
use Rattle.spec.specs.Book.{Book}
use Rattle.spec.specs.BookLayout.{SoundBook}
use Rattle.spec.specs.Given.{at_front}
use Rattle.codes.specs.Code.{slot_code, term_code, codes_of, widths_of}
use Rattle.search_meaning.specs.HeadBound.{HeadBound}

pub record SomeSound (book : List ℕ) : Type 0 where
  pub value : Book
  pub sound : SoundBook book value

-- codes and widths of its body as a source, at the fronts of two areas
pub record QuestionSource (book before after old new : List ℕ) (n : ℕ) : Type 0 where
  pub count : (b : Book) → SoundBook book b → n ≡ length b.question.body
  pub codes : (b : Book) → SoundBook book b → after ≡ at_front (codes_of slot_code b.question.body) before
  pub widths : (b : Book) → SoundBook book b → new ≡ at_front (widths_of b.question.body) old

-- codes of its body as a target
pub record QuestionTarget (book before after : List ℕ) (n : ℕ) : Type 0 where
  pub count : (b : Book) → SoundBook book b → n ≡ length b.question.body
  pub codes : (b : Book) → SoundBook book b → after ≡ at_front (codes_of term_code b.question.body) before

-- each variable of its head is bound to itself, and nothing else is bound
pub record QuestionBound (book bound : List ℕ) : Type 0 where
  pub is : (b : Book) → SoundBook book b → HeadBound b.question.head bound
