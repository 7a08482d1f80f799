-- The uses of a list of rows as codes, between the steps: as sources of the way back.
use Rattle.std.specs.Prelude.{List, ℕ}
use Rattle.spec.specs.Words.{Term, Subgoal}
use Rattle.spec.specs.Book.{Book}
use Rattle.book_codes.specs.UsesLent.{SourceUsesOf, SourceUses}
use Rattle.witness.specs.ThereTold.{Serves}
use Rattle.witness.specs.BackTold.{BackOf}

module _ (book source widths lasts : List ℕ) where
  pub record BackNeeds : Type 0 where
    pub from : SourceUses book source widths lasts
    pub serves : Serves from.value from.list

  pub record BackFromSays (at : ℕ) (before after : List ℕ) (n : ℕ) : Type 0 where
    pub is : (b : Book) (l : List (Subgoal (Term ℕ))) → SourceUsesOf book source widths lasts b l → Serves b l → BackOf b l at before after n
