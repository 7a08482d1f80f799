-- The rows' uses as sources, as they are lent from the areas that they were written to.
use mathlib.Core.Path.{sym, ◌∙◌}
use mathlib.Core.List.{List}
use Prim.Native.Nat.{ℕ, ◌*◌}
use native.Mathlib.Omega.{arith}
use lib.ListN.{take, length-map}
use Rattle.spec.specs.Words.{Term, Subgoal}
use Rattle.spec.specs.Summaries.{uses}
use Rattle.spec.specs.Book.{Book, admitted_of}
use Rattle.codes.specs.Code.{own_slot, codes_of, widths_of}
use Rattle.codes.proofs.Padded.{codes-length}
use Rattle.rule_codes.proofs.Stores.{front-again}
use Rattle.search_meaning.specs.Uses.{ends_of}
use Rattle.search_meaning.proofs.UseOf.{ends-long}
use Rattle.book_codes.specs.AllUses.{GoalsCounted, AllCodes, AllWidths, AllEnds}
use Rattle.book_codes.specs.FewRows.{FewRowsOf, FewRows}
use Rattle.book_codes.specs.UsesLent.{SourceUsesOf, SourceUses}
use Rattle.book_codes.proofs.Expanded.{list_of, all, many}

module _ {book rows : List ℕ} {k n : ℕ} (counted : GoalsCounted book rows k n)
    {w₀ w d₀ d e₀ e : List ℕ} (codes : AllCodes book rows k own_slot w₀ w) (wide : AllWidths book rows k d₀ d) (ends : AllEnds book rows k e₀ e) where
  pub from-of : (b : Book) (l : List (Subgoal (Term ℕ))) → FewRowsOf book rows k b l → SourceUsesOf book (take (9 * n) w) (take n d) (take n e) b l
  from-of b l t = record {
    list = list_of t;
    codes = front-again (codes_of own_slot (all counted b l t)) w₀ w (9 * n) (codes.is b l t.rows_of) (omega (arith, codes-length own_slot (all counted b l t), many counted b l t));
    wide = front-again (widths_of (all counted b l t)) d₀ d n (wide.is b l t.rows_of) (length-map (all counted b l t) _ ∙ sym (many counted b l t));
    ends = front-again (ends_of (uses (admitted_of b) 0 l)) e₀ e n (ends.is b l t.rows_of) (ends-long (uses (admitted_of b) 0 l) ∙ sym (many counted b l t));
  }

  unfoldable pub from : FewRows book rows k → SourceUses book (take (9 * n) w) (take n d) (take n e)
  from t = record { value = t.value; list = t.list; is = from-of t.value t.list t.is }
