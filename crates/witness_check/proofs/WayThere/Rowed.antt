-- The uses of rows with their beginnings, as they are lent from the areas that they were written to.
use mathlib.Core.Path.{ap, ◌∙◌}
use mathlib.Core.Bool.{Bool}
use mathlib.Core.List.{List}
use Prim.Native.Nat.{ℕ, ◌+◌, ◌*◌}
use lib.ListN.{take}
use Rattle.spec.specs.Words.{Term, Subgoal}
use Rattle.spec.specs.Summaries.{uses}
use Rattle.spec.specs.Book.{Book, admitted_of}
use Rattle.codes.specs.Code.{own_code}
use Rattle.rule_codes.proofs.Stores.{front-again}
use Rattle.book_codes.specs.Insides.{starts}
use Rattle.book_codes.specs.AllUses.{GoalsCounted, AllCodes, AllOwners, AllStarts}
use Rattle.book_codes.specs.FewRows.{FewRowsOf, FewRows}
use Rattle.book_codes.proofs.Beginnings.{starts-long}
use Rattle.book_codes.proofs.Expanded.{targets_of}
use Rattle.search_meaning.proofs.Owners.{uses-long}
use Rattle.witness_check.specs.WayThere.Confirms.{ThereCheckSays}
use Rattle.witness_check.specs.WayThere.Steps.{BegunUsesOf, ThereAlongNeeds, ThereAlongSays}

module _ {book rows : List ℕ} {k n : ℕ} (counted : GoalsCounted book rows k n) {o₀ o w₀ w s₀ s : List ℕ}
    (codes : AllCodes book rows k own_code w₀ w) (owns : AllOwners book rows k o₀ o) (begins : AllStarts book rows k s₀ s) where
  stood-of : (b : Book) (l : List (Subgoal (Term ℕ))) → FewRowsOf book rows k b l → BegunUsesOf book (take (9 * n) w) (take n o) s k b l
  stood-of b l t =
      record {
        targets = targets_of counted codes owns b l t;
        count = t.rows_of.count;
        begin = front-again (starts 0 (uses (admitted_of b) 0 l)) s₀ s (k + 1) (begins.is b l t.rows_of) (starts-long 0 (uses (admitted_of b) 0 l) ∙ ap (λ m. m + 1) (uses-long (admitted_of b) 0 l ∙ t.rows_of.count));
      }

  pub stood : FewRows book rows k → ThereAlongNeeds book (take (9 * n) w) (take n o) s k
  stood t = record { value = t.value; list = t.list; is = stood-of t.value t.list t.is }

  pub there-confirmed : {witness : List ℕ} {r : Bool} → ThereAlongSays book (take (9 * n) w) (take n o) s k witness r → ThereCheckSays book rows k witness r
  there-confirmed e = record { exactly = λ b l t. e.exactly b l (stood-of b l t) }
