-- Entries laid out as a book.
use mathlib.Core.Path.{◌≡◌, refl}
use mathlib.Core.List.{List, [], ◌∷◌, ◌++◌}
use Prim.Native.Nat.{ℕ, ◌+◌, ◌*◌}
use native.Mathlib.Omega.{arith}
use lib.ListN.{length, length-append}
use Rattle.spec.specs.Summaries.{joined}
use Rattle.spec.specs.Book.{Book}
use Rattle.spec.specs.Numbers.{little}
use Rattle.spec.specs.BookLayout.{StampedBody, entries, contents_end, contents_from, entries_of, bodies, book_bytes}

-- A count, the contents of these entries and their bodies: a book's bytes are its entries laid out so.
unfoldable pub laid : ℕ → List StampedBody → List ℕ
laid n es = little 2 n ++ (contents_from (contents_end n) es ++ joined (bodies es))

pub book-laid : (b : Book) → book_bytes b ≡ laid (length b.summaries) (entries_of b)
unfolding book_bytes laid
book-laid b = refl

-- "entries of 12 bytes"
pub contents-size : (at : ℕ) (es : List StampedBody) → length (contents_from at es) ≡ 12 * length es
contents-size at [] = refl
contents-size at (e ∷ es) = omega (arith, contents-size (at + length e.body) es)

module _ (n : ℕ) (es : List StampedBody) (all : length es ≡ entries n) where
  -- "Contents first": up to here
  pub contents-end : length (little 2 n ++ contents_from (contents_end n) es) ≡ contents_end n
  unfolding contents_end entries
  contents-end = omega (arith, contents-size (contents_end n) es)

  pub laid-size : length (laid n es) ≡ contents_end n + length (joined (bodies es))
  unfolding laid
  laid-size = omega (arith, contents-end, length-append (little 2 n ++ contents_from (contents_end n) es) (joined (bodies es)))
