-- Any two results that meet a promise of this crate are equal. Of a part, where it lies and what it holds are settled: the rest of a reference's value is a name
-- that only proofs see.
use mathlib.Core.Path.{◌≡◌, ap, sym, ◌∙◌}
use mathlib.Core.List.{List, List-discrete}
use Prim.Native.Nat.{ℕ, ◌<◌}
use Rattle.std.specs.Prelude.{Result, Ok, Err}
use native.Mathlib.Decide.{ℕ_discrete}
use Rattle.spec.specs.Contents.{entries_in}
use Rattle.spec.specs.Refusals.{Loads}
use Rattle.spec.specs.EntryPart.{Lent, LiesIn, EntryPart}
use Rattle.spec.specs.Loading.{LoadSays}
use Rattle.spec.specs.declared.Refused.{Refused}
use Rattle.spec.proofs.Bytes.FirstFaults.{loads-unrefused}
use Rattle.spec.proofs.Bytes.RefusedOnce.{refused-once}
use Rattle.spec.proofs.Lists.Finite.{positive}
use Rattle.spec.proofs.Told.{told-once}

-- `load`
pub load-unique : (book : List ℕ) (r s : Result ℕ Refused) → LoadSays book r → LoadSays book s → r ≡ s
load-unique book (Ok n) (Ok m) p q = ap Ok (p.1 ∙ sym q.1)
load-unique book (Ok n) (Err e) p q = absurd (loads-unrefused book p.0 q.0 q.1)
load-unique book (Err e) (Ok n) p q = absurd (loads-unrefused book q.0 p.0 p.1)
load-unique book (Err e) (Err f) p q = ap Err (told-once e f (refused-once book p.0 q.0))

-- Two parts that lie in the book at one place and hold the same bytes.
pub record Same (p q : Lent) : Type 0 where
  pub place : p.ref_ptr ≡ q.ref_ptr
  pub bytes : p.now ≡ q.now

same : (book : Lent) (from : ℕ) (bytes : List ℕ) (p q : Lent) → LiesIn book from bytes p → LiesIn book from bytes q → Same p q
same book from bytes p q a b = record { place = λ i. ((a.block ∙ sym b.block) i, (a.place ∙ sym b.place) i); bytes = a.holds ∙ sym b.holds }

-- `entry`: whether or not the book loads, the two parts cannot differ.
module _ (book : Lent) (i : ℕ) (p q : Lent) (a : EntryPart book i p) (b : EntryPart book i q) where
  never-differ : {A : Type 0} → (Same p q → A) → (A → ⊥) → ⊥
  never-differ f n =
      let none : Loads book.now → i < entries_in book.now → ⊥ = λ l h. n (f (same book _ _ p q (a.own l h) (b.own l h))) in
      n (f (same book _ _ p q (a.none none) (b.none none)))

  pub entry-unique : Same p q
  entry-unique = record {
    place = λ k. (positive (ℕ_discrete p.ref_ptr.0 q.ref_ptr.0) (never-differ (λ s j. (s.place j).0)) k, positive (ℕ_discrete p.ref_ptr.1 q.ref_ptr.1) (never-differ (λ s j. (s.place j).1)) k);
    bytes = positive (List-discrete ℕ_discrete p.now q.now) (never-differ (λ s. s.bytes));
  }
