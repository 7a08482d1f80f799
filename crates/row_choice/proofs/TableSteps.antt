-- Of each row of a book the set of those that dominate it, row by row.
use mathlib.Core.Path.{◌≡◌, sym, ap, ◌∙◌, subst}
use mathlib.Core.List.{List}
use Prim.Native.Nat.{ℕ, ◌+◌, ◌<◌}
use native.Mathlib.Omega.{arith}
use native.Mathlib.Decide.{dec_lt}
use lib.ListN.{length, get_or, take, drop, set, length-set}
use lib.Seq.{take_at, get_or-set_same, get_or-set_other}
use Rattle.spec.specs.Summaries.{uses}
use Rattle.spec.specs.Book.{Book, admitted_of}
use Rattle.spec.proofs.Decided.Rows.{RowList}
use Rattle.book_codes.specs.RowsGiven.{RowsOf}
use Rattle.book_codes.specs.Insides.{starts}
use Rattle.book_codes.specs.AllUses.{AllStarts}
use Rattle.book_codes.proofs.Beginnings.{starts-long}
use Rattle.search_meaning.proofs.Owners.{uses-long}
use Rattle.row_choice.specs.Dominators.{Dominators, RowsAsTargets, DominatorsOf}
use Rattle.row_choice.specs.Targets.{Targets}

module _ {book rows : List ℕ} {n : ℕ} where
  -- the targets, and where each row's begin
  pub rows-onto : {target before begins : List ℕ} → Targets book rows n target → AllStarts book rows n before begins → RowsAsTargets book rows n target begins
  rows-onto {before = before} t a = record {
    is = λ b l w. record {
      codes = t.is b l w;
      starts =
          let all = uses (admitted_of b) 0 l in
          ap (take (length l + 1)) (a.is b l w) ∙ take_at (starts 0 all) (drop (length (starts 0 all)) before) (length l + 1) (omega (arith, starts-long 0 all, uses-long (admitted_of b) 0 l));
    };
  }

-- The table of the first rows.
pub record TableFilled (book rows : List ℕ) (n r : ℕ) (table : List ℕ) : Type 0 where
  pub long : length table ≡ 64
  pub by : (b : Book) (l : RowList) → RowsOf book rows n b l → (x : ℕ) → x < r → Dominators (admitted_of b) l x (get_or table x 0)

module _ {book rows : List ℕ} {n : ℕ} where
  pub filled-goes : {r v : ℕ} {table : List ℕ} → r < 64 → DominatorsOf book rows n r v → TableFilled book rows n r table → TableFilled book rows n (r + 1) (set table r v)
  filled-goes {r} {v} {table} room d f = record { long = length-set table r v ∙ f.long; by = λ b l w x h. go b l w x h (dec_lt x r) }
    where
      go : (b : Book) (l : RowList) → RowsOf book rows n b l → (x : ℕ) → x < r + 1 → Dec (x < r) → Dominators (admitted_of b) l x (get_or (set table r v) x 0)
      go b l w x h (yes e) = subst (Dominators (admitted_of b) l x) (sym (get_or-set_other table r x v 0 (λ q. absurd (omega arith)))) (f.by b l w x e)
      go b l w x h (no e) = let q : r ≡ x = omega arith in subst (λ k. Dominators (admitted_of b) l k (get_or (set table r v) k 0)) q (subst (Dominators (admitted_of b) l r) (sym (get_or-set_same table r v 0 (let long = f.long in omega arith))) (d.by b l w))
