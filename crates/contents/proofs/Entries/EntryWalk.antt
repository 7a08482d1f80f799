-- How the walk over the entries finds out the rule of no gaps.
use mathlib.Core.Path.{◌≡◌, ap, sym, ◌∙◌}
use mathlib.Core.List.{List}
use Prim.Native.Nat.{ℕ, ◌+◌, ◌*◌, ◌<◌, ◌≤◌}
use native.Mathlib.Numerals.{add-one}
use native.Mathlib.Omega.{arith}
use lib.ListN.{length}
use borrow.Author.Count.{below_more}
use Rattle.spec.specs.BookLayout.{entries, contents_end}
use Rattle.spec.specs.Contents.{count, entries_in, offset_at, length_at, begin_at, NoGaps}
use Rattle.spec.proofs.Bytes.Within.{entries-counted}

-- Each entry below i begins where it has to.
pub record Followed (book : List ℕ) (i : ℕ) : Type 0 where
  pub begins : (k : ℕ) → k < i → offset_at book k ≡ begin_at book k

module _ (book : List ℕ) where
  pub followed-none : Followed book 0
  followed-none = record { begins = λ k h. absurd (omega arith) }

  -- Entry i begins at p, where it has to, and is x long: the next has to begin at p + x.
  pub followed-more : (i p : ℕ) → Followed book i → p ≡ begin_at book i → offset_at book i ≡ p → Followed book (i + 1)
  followed-more i p f b e = record { begins = below_more _ _ f.begins (e ∙ b) }

  pub begin-more : (i p x : ℕ) → offset_at book i ≡ p → x ≡ length_at book i → p + x ≡ begin_at book (i + 1)
  begin-more i p x e l = rw add-one (omega arith)

  module _ (n m : ℕ) (c : n ≡ count book) (a : m ≡ entries n) where
    pub start : 2 + 12 * m ≡ contents_end (count book)
    unfolding contents_end
    start = rw (a, c)

    all : m ≡ entries_in book
    all = entries-counted book n m c a

    pub cut : length book < 2 + 12 * m → NoGaps book → ⊥
    cut h whole = omega (arith, start, whole.room)

    pub gap : (i p : ℕ) → i < m → p ≡ begin_at book i → (offset_at book i ≡ p → ⊥) → NoGaps book → ⊥
    gap i p h b f whole = f (whole.begins i (omega (arith, all)) ∙ sym b)

    -- At the end of the walk p is where the last body ends.
    ended : (i p : ℕ) → i ≤ m → m ≤ i → p ≡ begin_at book i → p ≡ begin_at book (entries_in book)
    ended i p g h b = let e : i ≡ entries_in book = omega (arith, all) in b ∙ ap (begin_at book) e

    pub no_end : (i p : ℕ) → i ≤ m → m ≤ i → p ≡ begin_at book i → (p ≡ length book → ⊥) → NoGaps book → ⊥
    no_end i p g h b f whole = f (ended i p g h b ∙ whole.ends)

    pub whole : (i p : ℕ) → 2 + 12 * m ≤ length book → i ≤ m → m ≤ i → Followed book i → p ≡ begin_at book i → p ≡ length book → NoGaps book
    whole i p r g h f b e = record { room = omega (arith, start); begins = λ k l. f.begins k (omega (arith, all)); ends = sym (ended i p g h b) ∙ e }
